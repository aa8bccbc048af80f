-- The refusals of boards' lists as one number.
use Rattle.std.specs.Prelude.{List, [], ◌∷◌, ℕ}
use Rattle.rules.specs.Refusal.{bad_boards, misplaced, first_of}

-- 20 and 21
unfoldable pub boards_refusal : (version n g : ℕ) (boards rated : List ℕ) → ℕ
boards_refusal version n g boards rated = first_of ((20, bad_boards version g) ∷ (21, misplaced version n g boards rated) ∷ [])
