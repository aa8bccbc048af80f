-- An input that is longer than any file is mended by its front of 812 bytes or more: the header and all that is kept stand there, so the refusal, the mended bytes and
-- the list are the whole's, and of the bytes cut those behind the front are wanting. Assumes nothing.
use mathlib.Core.Path.{◌≡◌, refl, sym, ap, ap₂, ◌∙◌}
use mathlib.Core.Bool.{cond}
use mathlib.Core.List.{List, [], ◌∷◌, ◌++◌}
use Prim.Native.Nat.{ℕ, ◌+◌, ◌-◌, ◌≤◌, ◌<◌}
use native.Mathlib.Omega.{arith}
use lib.ListN.{length, get_or, take, drop, length-drop}
use lib.Seq.{length-take-le, ext_get_or, get_or-take, get_or-drop}
use borrow.Author.Tests.{le-ltb, not-false}
use Rattle.rules.specs.Boards.{has_boards}
use Rattle.rules.specs.Refusal.{bad_version, bad_size, bad_boards}
use Rattle.rules.specs.File.{number_at, version_field, fans_field, count_field, board_count_field, shortest_header, header_length, header_of, file_length, most_fans, most_systems, version_in, fans_in, count_in, board_count_in, length_in}
use Rattle.rules.specs.Below.{held}
use Rattle.rules.specs.Mending.{header_for, mended, cut_from, differs, changes_below, changes_in, changed_in, beyond_mending}
use Rattle.rules.proofs.Sums.{held_same}
use Rattle.rules.proofs.Changes.{changes-same}
use Rattle.rules.proofs.EachKind.{within-true}
use Rattle.rules.proofs.Accepted.{first-same}
use Rattle.layout.proofs.Numbers.{Same, number_same}
use Rattle.layout.proofs.Versions.{header-bounds, fans-bound, without-boards, few-boards}
use Rattle.mend.proofs.Mendable.{mendable, length_most}
use Rattle.mend.proofs.Mended.{mended-length}

-- what a front is mended to, beside the whole
pub record AsWhole (front bytes : List ℕ) : Type 0 where
  pub refusal : beyond_mending front ≡ beyond_mending bytes
  pub file : beyond_mending bytes ≡ 0 → mended front ≡ mended bytes
  pub list : beyond_mending bytes ≡ 0 → changes_in front ≡ changes_in bytes
  pub count : beyond_mending bytes ≡ 0 → changed_in front ≡ changed_in bytes
  pub cut : beyond_mending bytes ≡ 0 → cut_from front + (length bytes - length front) ≡ cut_from bytes

module _ (bytes : List ℕ) (k : ℕ) (long : 812 ≤ k) (within : k ≤ length bytes) where
  abbrev front : List ℕ
  front = take k bytes

  size : length front ≡ k
  size = length-take-le k bytes within

  same-front : Same front bytes 0 k
  same-front = record { byte = λ p h l. get_or-take k bytes p 0 l }

  version-same : version_in front ≡ version_in bytes
  version-same = number_same same-front 2 version_field (omega arith) (omega arith)

  fans-same : fans_in front ≡ fans_in bytes
  fans-same = number_same same-front 2 fans_field (omega arith) (omega arith)

  count_same : count_in front ≡ count_in bytes
  count_same = number_same same-front 2 count_field (omega arith) (omega arith)

  boards-same : board_count_in front ≡ board_count_in bytes
  boards-same = ap₂ (λ version g. cond (has_boards version) g 0) version-same (number_same same-front 4 board_count_field (omega arith) (omega arith))

  length-same : length_in front ≡ length_in bytes
  length-same = λ x. file_length (version-same x) (fans-same x) (boards-same x) (count_same x)

  refusal-same : beyond_mending front ≡ beyond_mending bytes
  unfolding beyond_mending
  refusal-same =
      let v = version_in bytes in
      let header = header-bounds v in
      let listed = fans-bound v (fans_in bytes) in
      first-same 10 _ _ _ _ (rw (size, le-ltb k shortest_header (omega arith), le-ltb (length bytes) shortest_header (omega arith))) (λ short.
      first-same 11 _ _ _ _ (ap bad_version version-same) (λ version.
      first-same 10 _ _ _ _
      (rw (version-same, size, le-ltb k (header_length v) (omega arith), le-ltb (length bytes) (header_length v) (omega arith))) (λ short.
      first-same 2 _ _ _ _ (ap bad_size fans-same) (λ fans.
      first-same 12 _ _ _ _ (rw count_same) (λ systems.
      first-same 20 _ _ _ _ (ap₂ bad_boards version-same boards-same) (λ counted.
      let n = (within-true 1 (fans_in front) most_fans (not-false _ fans)).1 in
      let m = (within-true 1 (count_in front) most_systems (not-false _ systems)).1 in
      let g = few-boards v (board_count_in bytes) (sym (ap₂ bad_boards version-same boards-same) ∙ counted) (without-boards v (number_at 4 bytes board_count_field) 0) in
      let short-enough : length_in bytes ≤ k = omega (arith, fans-same, count_same) in
      first-same 22 _ _ _ _
      (rw (length-same, size, le-ltb k (length_in bytes) short-enough, le-ltb (length bytes) (length_in bytes) (omega (arith, short-enough)))) (λ early. refl)))))))

  module _ (none : beyond_mending bytes ≡ 0) where
    most : length_in bytes ≤ 812
    most = length_most bytes (mendable bytes none)

    mended-same : mended front ≡ mended bytes
    unfolding mended
    mended-same =
        let h = header_length (version_in bytes) in
        let l = length_in bytes - h in
        (λ x. header_of (version-same x) (fans-same x) (boards-same x) (count_same x) ++ take (length-same x - header_length (version-same x)) (drop (header_length (version-same x)) front))
        ∙ ap (λ ys. header_for bytes ++ ys)
        (ext_get_or 0 (take l (drop h front)) (take l (drop h bytes))
        (length-take-le l (drop h front) (omega (arith, most, size, length-drop h front)) ∙ sym (length-take-le l (drop h bytes) (omega (arith, most, length-drop h bytes))))
        (λ i s.
        let small : i < l = omega (arith, length-take-le l (drop h front) (omega (arith, most, size, length-drop h front))) in
        get_or-take l (drop h front) i 0 small
        ∙ get_or-drop h front i 0
        ∙ get_or-take k bytes (h + i) 0 (omega (arith, most))
        ∙ sym (get_or-take l (drop h bytes) i 0 small ∙ get_or-drop h bytes i 0)))

    -- a byte that is written stands in the front
    abbrev upto : ℕ
    upto = length (mended bytes)

    below : (p : ℕ) → p < upto → p < k
    below p l = omega (arith, mended-length bytes none, most)

    list_same : changes_in front ≡ changes_in bytes
    list_same =
        ap (λ w. changes_below front w (length w)) mended-same
        ∙ changes-same front (mended bytes) bytes (mended bytes) upto (λ p l. get_or-take k bytes p 0 (below p l)) (λ p l. refl)

    changed-same : changed_in front ≡ changed_in bytes
    changed-same =
        ap (λ w. held (differs front w) (length w)) mended-same
        ∙ held_same (differs front (mended bytes)) (differs bytes (mended bytes)) upto (λ p l. ap (λ b. differs (b ∷ []) (get_or (mended bytes) p 0 ∷ []) 0) (get_or-take k bytes p 0 (below p l)))

  pub as-whole : AsWhole front bytes
  as-whole = record {
    refusal = refusal-same;
    file = mended-same;
    list = list_same;
    count = changed-same;
    cut = λ none. omega (arith, size, length-same, most none);
  }
