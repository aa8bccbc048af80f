-- The checks of a file as the program makes them, by the head that its header gives: what a test that the program made says of the file's own. Assumes nothing.
use mathlib.Core.Path.{◌≡◌, refl, sym, ap, ◌∙◌}
use mathlib.Core.Bool.{Bool, true, false, not, ◌&&◌, ◌||◌}
use mathlib.Core.List.{List, [], ◌∷◌}
use Prim.Native.Nat.{ℕ, ◌-◌, ◌≤◌}
use native.Mathlib.Omega.{arith}
use lib.Dec.{eqb}
use lib.ListN.{length, take, drop}
use lib.Seq.{take_all}
use borrow.Author.Tests.{not-false, eqb-true}
use Rattle.rules.specs.Boards.{has_boards}
use Rattle.rules.specs.Refusal.{first_of, after, bad_size, misplaced}
use Rattle.rules.specs.File.{number_at, board_fans, boards_offset, switchboards_offset, survival_field, weights_field, systems_field, boards_field}
use Rattle.rules.specs.File.{survival_offset, weights_offset, systems_offset, file_length, version_in, fans_in, count_in, board_count_in, deck_in}
use Rattle.rules.specs.File.{boards_elsewhere, bad_layout, bad_systems, bad_boards_in, misplaced_in, bad_start, short_file, short_header, file_refusal}
use Rattle.rules.proofs.Lists.{below_length}
use Rattle.rules.proofs.Tests.{both}
use Rattle.rules.proofs.Accepted.{first-after}
use Rattle.deck.specs.Head.{lists_elsewhere, boards_by, counts_refusal}
use Rattle.deck.specs.Outcome.{body_refusal}
use Rattle.layout.proofs.Versions.{fans-bound}

-- no check left
pub none_left : first_of [] ≡ 0
unfolding first_of
none_left = refl

-- one of five tests differs
one-differs : (a b c d e : Bool) → not (a && b && c && not d && e) ≡ ((not a || not b || not c) || d) || not e
one-differs true true true false e = refl
one-differs true true true true e = refl
one-differs true true false d e = refl
one-differs true false c d e = refl
one-differs false b c d e = refl

module _ (bytes : List ℕ) where
  abbrev v : ℕ
  v = version_in bytes

  abbrev n : ℕ
  n = fans_in bytes

  abbrev g : ℕ
  g = board_count_in bytes

  -- the offset of the board bytes
  pub elsewhere-some : has_boards v ≡ true → not (eqb (number_at 4 bytes boards_field) (boards_offset v n)) ≡ boards_elsewhere bytes
  elsewhere-some has = sym (ap (λ b. b && not (eqb (number_at 4 bytes boards_field) (boards_offset v n))) has)

  pub elsewhere-none : has_boards v ≡ false → boards_elsewhere bytes ≡ false
  elsewhere-none none = ap (λ b. b && not (eqb (number_at 4 bytes boards_field) (boards_offset v n))) none

  -- the layout: the offsets that every header has, that of the board bytes, and the length
  pub layout_is : (lists_elsewhere bytes || boards_elsewhere bytes) || not (eqb (length bytes) (file_length v n g (count_in bytes))) ≡ bad_layout bytes
  layout_is =
      sym
      (one-differs (eqb (number_at 4 bytes survival_field) (survival_offset v)) (eqb (number_at 4 bytes weights_field) (weights_offset v n))
      (eqb (number_at 4 bytes systems_field) (systems_offset v n g)) (boards_elsewhere bytes) (eqb (length bytes) (file_length v n g (count_in bytes))))

  -- a file laid out so holds its board bytes
  pub laid-whole : bad_layout bytes ≡ false → switchboards_offset v n ≤ length bytes
  laid-whole e =
      let offsets =
      eqb (number_at 4 bytes survival_field) (survival_offset v) && eqb (number_at 4 bytes weights_field) (weights_offset v n)
      && eqb (number_at 4 bytes systems_field) (systems_offset v n g) && not (boards_elsewhere bytes) in
      let whole = eqb (length bytes) (file_length v n g (count_in bytes)) in
      omega (arith, eqb-true (length bytes) (file_length v n g (count_in bytes)) (both offsets whole (not-false (offsets && whole) e)).1)

  -- the board bytes as they stand
  pub misplaced-is : (boards : List ℕ) → boards ≡ boards_by bytes v n
      → misplaced v n g boards (take (n - 0) (drop 0 boards)) ≡ misplaced_in bytes
  unfolding deck_in
  misplaced-is boards e =
      let as_many : length boards ≡ board_fans v n = ap length e ∙ below_length (board_fans v n) _ in
      ap (misplaced v n g boards) (take_all (n - 0) boards (omega (arith, fans-bound v n)))
      ∙ ap (λ xs. misplaced v n g xs xs) e

  -- the counts' refusal, and what comes before and after it
  counts-first : (a b c : Bool) (rest : List (ℕ × Bool))
      → first_of ((2, a) ∷ (12, b) ∷ (20, c) ∷ rest) ≡ after (first_of ((2, a) ∷ (12, b) ∷ (20, c) ∷ [])) (first_of rest)
  unfolding first_of after
  counts-first true b c rest = refl
  counts-first false true c rest = refl
  counts-first false false true rest = refl
  counts-first false false false rest = refl

  pub body-after : short_file bytes ≡ false → bad_start bytes ≡ false → short_header bytes ≡ false → file_refusal bytes ≡ body_refusal bytes
  unfolding file_refusal body_refusal counts_refusal
  body-after short start header =
      first-after 10 _ _ short
      ∙ first-after 11 _ _ start
      ∙ first-after 10 _ _ header
      ∙ counts-first (bad_size n) (bad_systems bytes) (bad_boards_in bytes) ((13, bad_layout bytes) ∷ (21, misplaced_in bytes) ∷ [])
