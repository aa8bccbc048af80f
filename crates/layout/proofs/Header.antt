-- A header that is read: in bytes that begin with the layout's header for a version and counts, whatever follows it, each field has its number. Assumes nothing.
use mathlib.Core.Path.{◌≡◌, refl, sym, ap, ◌∙◌}
use mathlib.Core.Bool.{true, false, cond, not, ◌&&◌}
use mathlib.Core.List.{List, [], ◌∷◌, ◌++◌, append_assoc}
use Prim.Native.Nat.{ℕ, ◌+◌, ◌*◌, ◌^◌, ◌≤◌, ◌<◌}
use native.Mathlib.Omega.{arith}
use lib.ListN.{length, get_or, length-append}
use lib.Dec.{eqb}
use borrow.Author.Tests.{not-false, eq-eqb}
use Rattle.rules.specs.Boards.{has_boards}
use Rattle.rules.specs.Refusal.{last_version, bad_version, most_boards}
use Rattle.rules.specs.File.{number_at, nth_number, all_bytes, counts_of, offsets_of, header_of, most_fans, most_systems, boards_offset}
use Rattle.rules.specs.File.{version_in, fans_in, count_in, board_count_in, boards_elsewhere, version_field, survival_field, board_count_field, boards_field, header_length}
use Rattle.rules.proofs.EachKind.{within-true}
use Rattle.layout.proofs.Under.{under_none, under-cons}
use Rattle.layout.proofs.Numbers.{Stands, all-length, number-within}
use Rattle.layout.proofs.Versions.{header-bounds, fans-bound, by-boards, read_some, under-read}

-- a version that there is fits its field
pub version-fits : (version : ℕ) → bad_version version ≡ false → version < 2 ^ 16
version-fits version e = omega (arith, within-true 1 version last_version (not-false _ e))

-- how long it is
pub offsets-length : (version n g : ℕ) → length (offsets_of version n g) ≡ 3 + cond (has_boards version) 2 0
offsets-length version n g = by-boards version (λ b. length (0 ∷ 0 ∷ 0 ∷ cond b (g ∷ boards_offset version n ∷ []) []) ≡ 3 + cond b 2 0) (λ e. refl) (λ e. refl)

pub header_is : (version : ℕ) → 8 + 4 * (3 + cond (has_boards version) 2 0) ≡ header_length version
header_is version = by-boards version (λ b. 8 + 4 * (3 + cond b 2 0) ≡ cond b 28 20) (λ e. refl) (λ e. refl)

pub header-length : (version n g m : ℕ) → length (header_of version n g m) ≡ header_length version
unfolding header_of
header-length version n g m =
    length-append (all_bytes 2 (counts_of version n m)) (all_bytes 4 (offsets_of version n g))
    ∙ rw (all-length 2 (counts_of version n m), all-length 4 (offsets_of version n g), offsets-length version n g) (header_is version)

-- a version that there is, and counts that a file can have
pub record Headed (version n g m : ℕ) : Type 0 where
  pub versioned : bad_version version ≡ false
  pub most_fans : n ≤ most_fans
  pub most-systems : m ≤ most_systems
  pub few : g ≤ most_boards
  pub no_boards : has_boards version ≡ false → g ≡ 0

module _ {version n g m : ℕ} (ok : Headed version n g m) (rest : List ℕ) where
  abbrev whole : List ℕ
  whole = header_of version n g m ++ rest

  pub count_at : (i : ℕ) → i < 4 → nth_number 2 whole version_field i ≡ get_or (counts_of version n m) i 0
  unfolding header_of
  count_at =
      let stands : Stands 2 (counts_of version n m) whole version_field =
      record { before = []; after = all_bytes 4 (offsets_of version n g) ++ rest; parts = simp append_assoc; place = refl }
      in
      number-within stands
      (under-cons (version-fits version ok.versioned)
      (under-cons (omega arith) (under-cons (omega (arith, ok.most_fans)) (under-cons (omega (arith, ok.most-systems)) (under_none (omega arith))))))

  offset_at : (i : ℕ) → i < length (offsets_of version n g) → nth_number 4 whole survival_field i ≡ get_or (offsets_of version n g) i 0
  unfolding header_of
  offset_at =
      let stands : Stands 4 (offsets_of version n g) whole survival_field =
      record { before = all_bytes 2 (counts_of version n m); after = rest; parts = refl; place = all-length 2 (counts_of version n m) }
      in
      let h = header-bounds version in
      let f = fans-bound version n in
      number-within stands
      (under-cons (omega arith) (under-cons (omega (arith, ok.most_fans)) (under-cons (omega (arith, ok.few, ok.most_fans))
      (under-read version (omega arith) (under-cons (omega (arith, ok.few)) (under-cons (omega (arith, ok.most_fans)) (under_none (omega arith))))))))

  -- the three offsets that every version has
  pub place_at : (i : ℕ) → i < 3 → nth_number 4 whole survival_field i ≡ get_or (offsets_of version n g) i 0
  place_at i l = offset_at i (omega (arith, offsets-length version n g))

  pub version-at : version_in whole ≡ version
  version-at = count_at 0 (omega arith)

  pub fans-at : fans_in whole ≡ n
  fans-at = count_at 2 (omega arith)

  pub systems-at : count_in whole ≡ m
  systems-at = count_at 3 (omega arith)

  -- what the header of a version with boards ends in
  abbrev last : List ℕ
  last = g ∷ boards_offset version n ∷ []

  board-count-given : has_boards version ≡ true → number_at 4 whole board_count_field ≡ g
  board-count-given e = offset_at 3 (omega (arith, ap length (read_some version last e))) ∙ ap (λ xs. get_or xs 0 0) (read_some version last e)

  board-bytes-given : has_boards version ≡ true → number_at 4 whole boards_field ≡ boards_offset version n
  board-bytes-given e = offset_at 4 (omega (arith, ap length (read_some version last e))) ∙ ap (λ xs. get_or xs 1 0) (read_some version last e)

  pub board-count-at : board_count_in whole ≡ g
  board-count-at =
      rw version-at (by-boards version (λ b. cond b (number_at 4 whole board_count_field) 0 ≡ g) board-count-given (λ e. sym (ok.no_boards e)))

  pub boards-stand-at : boards_elsewhere whole ≡ false
  boards-stand-at =
      rw (version-at, fans-at)
      (by-boards version (λ b. b && not (eqb (number_at 4 whole boards_field) (boards_offset version n)) ≡ false) (λ e. ap not (eq-eqb _ _ (board-bytes-given e))) (λ e. refl))
