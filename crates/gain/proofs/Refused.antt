-- 4 for a spare above the unit takes its place in the figures' list: what was refused 5, 6, 7 or not at all is refused 4, and what came before 4 stays. By the list's
-- conditions one after the other. Assumes nothing.
use Prim.Native.Nat.{ℕ}
use mathlib.Core.Path.{◌≡◌, refl}
use mathlib.Core.Bool.{Bool, true, false, not, ◌||◌}
use mathlib.Core.List.{List, [], ◌∷◌}
use Rattle.rules.specs.Asked.{Asked, length_of, size_of, weights_of, read_of, boards_of, board_count}
use Rattle.rules.specs.Refusal.{first_of, bad_version, bad_kind, bad_size, bad_stretch, bad_boards, misplaced, bad_weights, in_range, short_table, numbers_above, rating_refusal, figures_refusal}
use Rattle.gain.specs.Outcome.{with_spare}

-- 4 and those behind it, and those before it one by one
abbrev later : (four five six seven : Bool) → List (ℕ × Bool)
later four five six seven = (4, four) ∷ (5, five) ∷ (6, six) ∷ (7, seven) ∷ []

four-given : (four five six seven : Bool) → with_spare true (first_of (later four five six seven)) ≡ 4
unfolding first_of
four-given true five six seven = refl
four-given false true six seven = refl
four-given false false true seven = refl
four-given false false false true = refl
four-given false false false false = refl

abbrev listed : (eleven one two three twenty placed : Bool) → List (ℕ × Bool) → List (ℕ × Bool)
listed eleven one two three twenty placed rest = (11, eleven) ∷ (1, one) ∷ (2, two) ∷ (3, three) ∷ (20, twenty) ∷ (21, placed) ∷ rest

all-given : (eleven one two three twenty placed four five six seven : Bool)
    → with_spare true (first_of (listed eleven one two three twenty placed (later four five six seven)))
    ≡ first_of (listed eleven one two three twenty placed (later true five six seven))
unfolding first_of
all-given true one two three twenty placed four five six seven = refl
all-given false true two three twenty placed four five six seven = refl
all-given false false true three twenty placed four five six seven = refl
all-given false false false true twenty placed four five six seven = refl
all-given false false false false true placed four five six seven = refl
all-given false false false false false true four five six seven = refl
all-given false false false false false false four five six seven = four-given four five six seven

pub with-spare : (above : Bool) (q : Asked) (table : List ℕ) → with_spare above (figures_refusal q table) ≡ rating_refusal (above || numbers_above q) q table
unfolding figures_refusal
with-spare false q table = refl
with-spare true q table =
    all-given (bad_version q.version) (bad_kind q.rule) (bad_size (length_of q)) (bad_stretch q.a q.b (length_of q)) (bad_boards q.version (board_count q))
    (misplaced q.version (length_of q) (board_count q) q.boards (boards_of q)) (numbers_above q) (bad_weights q.rule (length_of q) q.weights (weights_of q))
    (not (in_range q.rule (size_of q) (read_of q))) (short_table table)
