-- The refusals of a rating in parts, and the weights that it reads.
use Rattle.std.specs.Prelude.{ℕ, suc, ◌-◌, cond, not, List, [], ◌∷◌, eqb, length}
use Rattle.rules.specs.declared.Rule.{Rule}
use Rattle.rules.specs.declared.Question.{Question}
use Rattle.rules.specs.State.{beside_of}
use Rattle.rules.specs.Stretch.{stretch}
use Rattle.rules.specs.Asked.{asked_of, unit_in, length_of, part_of, boards_of, switchboards_of, board_count}
use Rattle.rules.specs.Refusal.{bad_kind, bad_size, bad_stretch, bad_boards, misplaced, above_unit, bad_weights, in_range, first_of}

-- the weights of the components rated: kind 2's, where it has as many as there are components, and no others
unfoldable pub rated_of : Rule → (n : ℕ) (weights : List ℕ) (a b : ℕ) → List ℕ
rated_of rule n weights a b = cond (eqb rule.kind 2) (cond (eqb (length weights) n) (stretch a b weights) []) []

-- 1, 2 and 3 of a list of n, which ask nothing of what it holds
unfoldable pub place_refusal : Rule → (a b n : ℕ) → ℕ
place_refusal rule a b n = first_of ((1, bad_kind rule) ∷ (2, bad_size n) ∷ (3, bad_stretch a b n) ∷ [])

-- 20 and 21, then 4, which read the fans' and the boards' lists
unfoldable pub lists_refusal : Question → (survival boards switchboards : List ℕ) → ℕ
lists_refusal question survival boards switchboards =
    let q = asked_of question survival [] [] boards switchboards in
    first_of
    ((20, bad_boards q.version (board_count q))
    ∷ (21, misplaced q.version (length_of q) (board_count q) q.boards (boards_of q))
    ∷ (4, above_unit (unit_in q) (part_of q) (switchboards_of q))
    ∷ [])

-- 5 and 6
unfoldable pub part_refusal : Rule → (a b n : ℕ) (weights more : List ℕ) → ℕ
part_refusal rule a b n weights more =
    let rated = stretch a b weights in
    first_of ((5, bad_weights rule n weights rated) ∷ (6, not (in_range rule (suc b - a) (beside_of rule rated more))) ∷ [])
