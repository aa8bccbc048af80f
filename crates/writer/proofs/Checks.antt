-- The refusals of what is typed as the program looks at them: 20 and 21 once 11, 2, 5 and 12 are past, of the lists as they are lent, and what they leave. Assumes
-- nothing.
use mathlib.Core.Path.{◌≡◌, refl, sym, ap, ◌∙◌}
use mathlib.Core.Bool.{Bool, true, false}
use mathlib.Core.List.{List, [], ◌∷◌}
use Prim.Native.Nat.{ℕ, ◌-◌}
use native.Mathlib.Omega.{arith}
use lib.Dec.{eqb}
use lib.ListN.{length, take, drop}
use lib.Seq.{take_all}
use borrow.Author.Tests.{eqb-true}
use Rattle.rules.specs.Refusal.{bad_version, bad_size, bad_boards, misplaced, first_of, after}
use Rattle.rules.specs.Writing.{Typed, unpaired, bad_fives, short_for, write_refusal}
use Rattle.rules.proofs.Accepted.{none_first, first-after}
use Rattle.board_lists.specs.Refused.{boards_refusal}

boards-first : (b c : Bool) (rest : List (ℕ × Bool)) → first_of ((20, b) ∷ (21, c) ∷ rest) ≡ after (first_of ((20, b) ∷ (21, c) ∷ [])) (first_of rest)
unfolding first_of after
boards-first true c rest = refl
boards-first false true rest = refl
boards-first false false rest = refl

module _ (t : Typed) where
  abbrev n : ℕ
  n = length t.survival

  abbrev g : ℕ
  g = length t.switchboards

  -- all fans are rated
  boards-whole : boards_refusal t.version n g t.boards (take (n - 0) (drop 0 t.boards)) ≡ boards_refusal t.version n g t.boards t.boards
  unfolding boards_refusal
  boards-whole = ap (λ b. first_of ((20, bad_boards t.version g) ∷ (21, b) ∷ [])) (go (eqb (length t.boards) n) refl)
    where
      go : (b : Bool) → eqb (length t.boards) n ≡ b
          → misplaced t.version n g t.boards (take (n - 0) (drop 0 t.boards)) ≡ misplaced t.version n g t.boards t.boards
      go true e = ap (misplaced t.version n g t.boards) (take_all (n - 0) t.boards (omega (arith, eqb-true (length t.boards) n e)))
      go false e = rw e

  module _ {boarded : ℕ} (is : boarded ≡ boards_refusal t.version n g t.boards (take (n - 0) (drop 0 t.boards))) where
    pub boards-are : (room : List ℕ) → bad_version t.version ≡ false → bad_size n ≡ false → unpaired t ≡ false → bad_fives (length t.numbers) ≡ false
        → write_refusal t room ≡ after boarded (first_of ((16, short_for t room) ∷ []))
    unfolding write_refusal boards_refusal
    boards-are room eleven two five twelve =
        first-after 11 _ _ eleven ∙ first-after 2 _ _ two ∙ first-after 5 _ _ five ∙ first-after 12 _ _ twelve
        ∙ boards-first (bad_boards t.version g) (misplaced t.version n g t.boards t.boards) ((16, short_for t room) ∷ [])
        ∙ ap (λ r. after r (first_of ((16, short_for t room) ∷ []))) (sym (is ∙ boards-whole))

    pub typed-sound : boarded ≡ 0 → (bad_boards t.version g ≡ false) × (misplaced t.version n g t.boards t.boards ≡ false)
    unfolding boards_refusal
    typed-sound none =
        let a = none_first 19 _ _ (sym (is ∙ boards-whole) ∙ none) in
        (a.0, (none_first 20 _ _ a.1).0)
