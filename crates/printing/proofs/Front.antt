-- Input longer than any sound file, 812 bytes, is never cut into a sound one: a front of 813 bytes or more has the whole's header and is no file
-- either, so both are refused, and alike. A buffer that takes more than 812 bytes can be cut from no input that matters. Assumes nothing.
use mathlib.Core.Path.{◌≡◌, refl, sym, ap, ◌∙◌}
use mathlib.Core.Bool.{Bool, true, false, cond, not, ◌&&◌, true≢false}
use mathlib.Core.List.{List}
use Prim.Native.Nat.{ℕ, ◌≤◌, ◌<◌}
use native.Mathlib.Decide.{dec_le}
use native.Mathlib.Omega.{arith}
use lib.Dec.{eqb}
use lib.ListN.{length, take}
use lib.Seq.{length-take-le, take_all}
use borrow.Author.Tests.{le-ltb, ne_eqb, not-false}
use Rattle.rules.specs.Below.{within}
use Rattle.rules.specs.Refusal.{bad_version, bad_size, bad_boards}
use Rattle.rules.specs.File.{version_field, zero_field, fans_field, count_field, survival_field, weights_field, systems_field, board_count_field, shortest_header, header_length, most_fans, most_systems, survival_offset, weights_offset, systems_offset, file_length, number_at, version_in, fans_in, count_in, board_count_in, boards_elsewhere, bad_layout, bad_boards_in, bad_systems, short_header, length_in, file_refusal}
use Rattle.rules.proofs.EachKind.{within-true}
use Rattle.rules.proofs.Accepted.{first-same}
use Rattle.ending.specs.Ending.{longest}
use Rattle.layout.proofs.Versions.{header-bounds, fans-bound, without-boards, few-boards}
use Rattle.deck.proofs.Sound.{sound, sound-few}
use Rattle.ending.proofs.Asking.{same_number}
use Rattle.advice.specs.Words.{because}
use Rattle.advice.specs.File.{laid_why, counts_why, header_why, file_why}
use Rattle.advice.specs.declared.cause.Cause.TheVariants.{HeaderShort, UnknownVersion, ZeroFieldSet, FansOut, SystemsOut, BoardsOut, BoardPastLast}
use Rattle.printing.specs.Front.{Front, Fronted}

-- of two choices: by tests that both fail, and by tests that are the same
past : {A : Type 0} (s t : Bool) (x y x' y' : A) → s ≡ false → t ≡ false → y ≡ y' → cond s x y ≡ cond t x' y'
past s t x y x' y' a b e = rw (a, b) e

either : {A : Type 0} (s t : Bool) (x y x' y' : A) → s ≡ t → x ≡ x' → (s ≡ false → y ≡ y') → cond s x y ≡ cond t x' y'
either true t x y x' y' e a b = a ∙ ap (λ u. cond u x' y') e
either false t x y x' y' e a b = b refl ∙ ap (λ u. cond u x' y') e

-- a length that differs is refused, whatever the offsets are
long-layout : (bytes : List ℕ) → longest < length bytes → fans_in bytes ≤ most_fans → count_in bytes ≤ most_systems → bad_boards_in bytes ≡ false → bad_layout bytes ≡ true
long-layout bytes long fans systems counted =
    let v = version_in bytes in
    let n = fans_in bytes in
    let g = board_count_in bytes in
    let few = few-boards v g counted (without-boards v (number_at 4 bytes board_count_field) 0) in
    let header = header-bounds v in
    let listed = fans-bound v n in
    let placed =
    eqb (number_at 4 bytes survival_field) (survival_offset v) && eqb (number_at 4 bytes weights_field) (weights_offset v n)
    && eqb (number_at 4 bytes systems_field) (systems_offset v n g) && not (boards_elsewhere bytes) in
    rw (ne_eqb (length bytes) (file_length v n g (count_in bytes)) (λ e. omega arith)) (never placed)
  where
    never : (b : Bool) → not (b && false) ≡ true
    never true = refl
    never false = refl

long-refused : (bytes : List ℕ) → longest < length bytes → file_refusal bytes ≡ 0 → ⊥
long-refused bytes long none =
    let s = sound bytes none in
    let few = sound-few bytes none in
    let header = header-bounds (version_in bytes) in
    let listed = fans-bound (version_in bytes) (fans_in bytes) in
    omega arith

module _ (bytes : List ℕ) (k : ℕ) (long : longest < k) (inside : k ≤ length bytes) where
  abbrev front : List ℕ
  front = take k bytes

  size : length front ≡ k
  size = length-take-le k bytes inside

  same-refusal : file_refusal front ≡ file_refusal bytes
  unfolding file_refusal
  same-refusal =
      let fans-same = same_number bytes k 2 fans_field (omega arith) in
      let count_same = same_number bytes k 2 count_field (omega arith) in
      let version-same = same_number bytes k 2 version_field (omega arith) in
      let boards-same : bad_boards_in front ≡ bad_boards_in bytes = rw (same_number bytes k 4 board_count_field (omega arith), version-same) in
      let header = header-bounds (version_in bytes) in
      first-same 10 _ _ _ _ (rw (size, le-ltb k shortest_header (omega arith), le-ltb (length bytes) shortest_header (omega arith))) (λ short.
      first-same 11 _ _ _ _ (rw (version-same, same_number bytes k 2 zero_field (omega arith))) (λ version.
      first-same 10 _ _ _ _
      (rw (version-same, size, le-ltb k (header_length (version_in bytes)) (omega arith), le-ltb (length bytes) (header_length (version_in bytes)) (omega arith))) (λ short.
      first-same 2 _ _ _ _ (ap bad_size fans-same) (λ fans.
      first-same 12 _ _ _ _ (rw count_same) (λ systems.
      first-same 20 _ _ _ _ boards-same (λ counted.
      let n = (within-true 1 _ most_fans (not-false _ fans)).1 in
      let m = (within-true 1 _ most_systems (not-false _ systems)).1 in
      let laid = long-layout front (rw size long) n m counted in
      first-same 13 _ _ _ _ (laid ∙ sym (long-layout bytes (omega arith) (rw fans-same at n) (rw count_same at m) (sym boards-same ∙ counted)))
      (λ layout. absurd (true≢false (sym laid ∙ layout)))))))))

  -- and for the same cause: what tells the causes apart stands in the header, and neither ends early
  version-same : version_in front ≡ version_in bytes
  version-same = same_number bytes k 2 version_field (omega arith)

  fans-same : fans_in front ≡ fans_in bytes
  fans-same = same_number bytes k 2 fans_field (omega arith)

  count_same : count_in front ≡ count_in bytes
  count_same = same_number bytes k 2 count_field (omega arith)

  boards-same : board_count_in front ≡ board_count_in bytes
  boards-same = rw (same_number bytes k 4 board_count_field (omega arith), version-same)

  -- a file of a deck's counts ends before the longest does
  ends-early : fans_in bytes ≤ most_fans → count_in bytes ≤ most_systems → bad_boards_in bytes ≡ false → length_in bytes ≤ longest
  ends-early fans systems counted =
      let v = version_in bytes in
      let few = few-boards v (board_count_in bytes) counted (without-boards v (number_at 4 bytes board_count_field) 0) in
      let header = header-bounds v in
      let listed = fans-bound v (fans_in bytes) in
      omega arith

  laid_same : bad_size (fans_in front) ≡ false → bad_systems front ≡ false → bad_boards_in front ≡ false → laid_why front ≡ laid_why bytes
  unfolding laid_why
  laid_same fans systems counted =
      let n = (within-true 1 (fans_in front) most_fans (not-false (within 1 (fans_in front) most_fans) fans)).1 in
      let m = (within-true 1 (count_in front) most_systems (not-false (within 1 (count_in front) most_systems) systems)).1 in
      let n' = rw fans-same at n in
      let m' = rw count_same at m in
      let counted' : bad_boards_in bytes ≡ false = sym (λ i. bad_boards (version-same i) (boards-same i)) ∙ counted in
      let early = ends-early n' m' counted' in
      let lengths : length_in front ≡ length_in bytes = λ i. file_length (version-same i) (fans-same i) (boards-same i) (count_same i) in
      past _ _ _ _ _ _ (le-ltb (length front) (length_in front) (omega (arith, size, early, lengths))) (le-ltb (length bytes) (length_in bytes) (omega (arith, early)))
      (either _ _ _ _ _ _ (long-layout front (rw size long) n m counted ∙ sym (long-layout bytes (omega arith) n' m' counted')) refl
      (λ none. ap (λ g. because BoardPastLast g 0 0 0) boards-same))

  counts_same : counts_why front ≡ counts_why bytes
  unfolding counts_why
  counts_same =
      either _ _ _ _ _ _ (ap bad_size fans-same) (ap (λ n. because FansOut n 0 0 0) fans-same) (λ fans.
      either _ _ _ _ _ _ (ap (λ m. not (within 1 m most_systems)) count_same) (ap (λ m. because SystemsOut m 0 0 0) count_same) (λ systems.
      either _ _ _ _ _ _ (λ i. bad_boards (version-same i) (boards-same i)) (ap (λ g. because BoardsOut g 0 0 0) boards-same) (λ counted. laid_same fans systems counted)))

  header-same : header_why front ≡ header_why bytes
  unfolding header_why
  header-same =
      let zeros = same_number bytes k 2 zero_field (omega arith) in
      let header = header-bounds (version_in bytes) in
      let lengths = ap header_length version-same in
      let whole : cond (short_header front) (because HeaderShort (length front) (header_length (version_in front)) 0 0) (counts_why front)
      ≡ cond (short_header bytes) (because HeaderShort (length bytes) (header_length (version_in bytes)) 0 0) (counts_why bytes) =
      past _ _ _ _ _ _ (le-ltb (length front) (header_length (version_in front)) (omega (arith, size, lengths))) (le-ltb (length bytes) (header_length (version_in bytes)) (omega arith))
      counts_same in
      λ i. cond (eqb (zeros i) 0) (whole i) (because ZeroFieldSet (zeros i) 0 0 0)

  same-why : file_why front ≡ file_why bytes
  unfolding file_why
  same-why =
      past _ _ _ _ _ _ (le-ltb (length front) shortest_header (omega (arith, size))) (le-ltb (length bytes) shortest_header (omega arith))
      (either _ _ _ _ _ _ (ap bad_version version-same) (ap (λ v. because UnknownVersion v 0 0 0) version-same) (λ known. header-same))

  front-refused : file_refusal front ≡ 0 → ⊥
  front-refused = long-refused front (rw size long)

-- an input is read as its front in a buffer that takes more than the longest file
module _ (buffer : List ℕ) (filled : ℕ) (long : longest < length buffer) where
  abbrev file : List ℕ
  file = take filled buffer

  fits : (input : List ℕ) → Front input buffer filled → length input ≤ length buffer → file ≡ input
  fits input front l = front.same ∙ take_all filled input (omega (arith, front.most))

  pub fronted : Fronted buffer filled file
  fronted = record {
    is = refl;
    refusal = λ input front.
        elim (dec_le (length input) (length buffer)) [
          | yes l ↦ ap file_refusal (fits input front l)
          | no g ↦ ap file_refusal front.same ∙ same-refusal input filled (omega (arith, front.most)) (omega (arith, front.most))
        ];
    why = λ input front.
        elim (dec_le (length input) (length buffer)) [
          | yes l ↦ ap file_why (fits input front l)
          | no g ↦ ap file_why front.same ∙ same-why input filled (omega (arith, front.most)) (omega (arith, front.most))
        ];
    whole = λ input front none.
        elim (dec_le (length input) (length buffer)) [
          | yes l ↦ fits input front l
          | no g ↦
              let accepted = rw front.same at none in
              absurd (front-refused input filled (omega (arith, front.most)) (omega (arith, front.most)) accepted)
        ];
  }
