-- Document 01, "Refusal numbers": each condition of the table, and each call's refusal, "the lowest number that applies, and none otherwise".
use Rattle.std.specs.Prelude.{Result, Ok, Err, Bool, false, cond, not, ◌&&◌, ◌||◌, List, [], ◌∷◌, ℕ, zero, suc, ◌^◌, ltb, leb, eqb, length, get_or}
use Rattle.rules.specs.declared.Rule.{Rule}
use Rattle.rules.specs.declared.refusal.Refusal.{Refusal}
use Rattle.rules.specs.declared.refusal.Refusal.TheVariants as refusal
use Rattle.rules.specs.Below.{some, total, within, row_of}
use Rattle.rules.specs.State.{beside_of}
use Rattle.rules.specs.Pairs.{pairs_of, in_range8, bad_more}
use Rattle.rules.specs.Boards.{has_boards}
use Rattle.rules.specs.Asked.{Asked, unit_in, length_of, size_of, part_of, weights_of, read_of, boards_of, switchboards_of, board_count}

-- 11: since request 11, "for versions not 1..3"
abbrev pub last_version : ℕ
last_version = 3

abbrev pub bad_version : (version : ℕ) → Bool
bad_version version = not (within 1 version last_version)

-- 1: since request 05, "for kinds not 1..8"
abbrev pub last_kind : ℕ
last_kind = 8

abbrev pub bad_kind : Rule → Bool
bad_kind rule = not (within 1 rule.kind last_kind)

-- 15: "for a kind 8 count table, right after 1"
abbrev pub not_counted : Rule → Bool
not_counted rule = eqb rule.kind 8

-- 2: n 0 or above 64
abbrev pub most : ℕ
most = 64

abbrev pub bad_size : ℕ → Bool
bad_size n = not (within 1 n most)

-- 3: a = 0, b < a or b > n
abbrev pub bad_stretch : (a b n : ℕ) → Bool
bad_stretch a b n = eqb a 0 || ltb b a || ltb n b

-- is some number of a list above a limit?
unfoldable pub some_above : (limit : ℕ) (numbers : List ℕ) → Bool
some_above limit numbers = some (λ i. ltb limit (get_or numbers i 0)) (length numbers)

-- 20, request 11: "g outside 1..4"
abbrev pub most_boards : ℕ
most_boards = 4

abbrev pub bad_boards : (version g : ℕ) → Bool
bad_boards version g = has_boards version && not (within 1 g most_boards)

-- 21: "a fan's board number above g (rating calls: a rated fan's) or a board list not n long"
abbrev pub misplaced : (version n g : ℕ) (boards rated : List ℕ) → Bool
misplaced version n g boards rated = has_boards version && (not (eqb (length boards) n) || some_above g rated)

-- 4: a P read is above the unit; request 08: "4 against the file's unit"; request 11: "4 for any board's survival number too"
abbrev pub above_unit : (u : ℕ) (survival switchboards : List ℕ) → Bool
above_unit u survival switchboards = some_above u survival || some_above u switchboards

-- 5: kind 2: weights' length is not n, or the total over the components rated is above 120
abbrev pub heaviest : ℕ
heaviest = 120

unfoldable pub weights_out : Rule → (n listed total : ℕ) → Bool
weights_out rule n listed total = eqb rule.kind 2 && (not (eqb listed n) || ltb heaviest total)

abbrev pub bad_weights : Rule → (n : ℕ) (weights rated : List ℕ) → Bool
bad_weights rule n weights rated = weights_out rule n (length weights) (total rated)

-- 6: first or second out of range: the table's column "range"; request 03: "6 for kind 6 only when first is not 2 or r is outside 2..64"
abbrev pub range_one : (k most second : ℕ) → Bool
range_one k most second = within 1 k most && eqb second 0

abbrev pub range_two : (first r most : ℕ) → Bool
range_two first r most = eqb first 2 && within 2 r most

-- request 05: "6 for a bad pair or number of pairs"
unfoldable pub range_pairs : (first second n : ℕ) (more : List ℕ) → Bool
range_pairs first second n more = not (bad_more more) && in_range8 n (pairs_of first second more)

unfoldable pub ranged : Rule → (n total : ℕ) (more : List ℕ) → Bool
ranged rule n total more =
    let first = rule.first in
    let second = rule.second in
    row_of rule.kind false
    (range_one first n second
    ∷ range_one first total second
    ∷ (leb first second && leb second n)
    ∷ range_one first n second
    ∷ range_one first n second
    ∷ range_two first second most
    ∷ range_two first second n
    ∷ range_pairs first second n more
    ∷ [])

abbrev pub in_range : Rule → (n : ℕ) (beside : List ℕ) → Bool
in_range rule n beside = ranged rule n (total beside) beside

-- 7: working table under 7,800 64-bit cells
abbrev pub cells : ℕ
cells = 7800

abbrev pub short_table : (table : List ℕ) → Bool
short_table table = ltb (length table) cells

-- 8: count table's room under n + 1 cells
abbrev pub short_room : (n : ℕ) (room : List ℕ) → Bool
short_room n room = ltb (length room) (suc n)

-- 9: a one above bit n - 1
abbrev pub high_one : (n w : ℕ) → Bool
high_one n w = leb (2 ^ n) w

-- the number of the first condition that holds; 0 where none does
unfoldable pub first_of : List (ℕ × Bool) → ℕ
first_of [] = 0
first_of (c ∷ cs) = cond c.1 c.0 (first_of cs)

-- a refusal where there is one, else the next
unfoldable pub after : (refusal next : ℕ) → ℕ
after zero next = next
after (suc r) next = suc r

-- "The verdict checks 1, 2, 5, 6, 9"
unfoldable pub verdict_refusal : Rule → (n : ℕ) (weights more : List ℕ) (w : ℕ) → ℕ
verdict_refusal rule n weights more w =
    first_of
    ((1, bad_kind rule)
    ∷ (2, bad_size n)
    ∷ (5, bad_weights rule n weights weights)
    ∷ (6, not (in_range rule n (beside_of rule weights more)))
    ∷ (9, high_one n w)
    ∷ [])

-- "the count table 1, 2, 5, 6, 7, 8", and 15 right after 1
unfoldable pub count_refusal : Rule → (n : ℕ) (weights table room : List ℕ) → ℕ
count_refusal rule n weights table room =
    first_of
    ((1, bad_kind rule)
    ∷ (15, not_counted rule)
    ∷ (2, bad_size n)
    ∷ (5, bad_weights rule n weights weights)
    ∷ (6, not (in_range rule n weights))
    ∷ (7, short_table table)
    ∷ (8, short_room n room)
    ∷ [])

-- "the figures 1, 2, 3, 4, 5, 6, 7": since request 02 "3 now belongs to every figure"; 11 "first where it is an input"; "20 and 21 come just before 4".
-- By what 4 says, since a call may read a survival number beside the lists
abbrev pub rating_refusal : (four : Bool) → Asked → (table : List ℕ) → ℕ
rating_refusal four q table =
    first_of
    ((11, bad_version q.version)
    ∷ (1, bad_kind q.rule)
    ∷ (2, bad_size (length_of q))
    ∷ (3, bad_stretch q.a q.b (length_of q))
    ∷ (20, bad_boards q.version (board_count q))
    ∷ (21, misplaced q.version (length_of q) (board_count q) q.boards (boards_of q))
    ∷ (4, four)
    ∷ (5, bad_weights q.rule (length_of q) q.weights (weights_of q))
    ∷ (6, not (in_range q.rule (size_of q) (read_of q)))
    ∷ (7, short_table table)
    ∷ [])

abbrev pub numbers_above : Asked → Bool
numbers_above q = above_unit (unit_in q) (part_of q) (switchboards_of q)

unfoldable pub figures_refusal : Asked → (table : List ℕ) → ℕ
figures_refusal q table = rating_refusal (numbers_above q) q table

-- the table's number of a refusal
abbrev pub number : Refusal → ℕ
number refusal.Kind = 1
number refusal.Size = 2
number refusal.Stretch = 3
number refusal.Survival = 4
number refusal.Weights = 5
number refusal.Range = 6
number refusal.Table = 7
number refusal.CountRoom = 8
number refusal.State = 9
number refusal.Short = 10
number refusal.Version = 11
number refusal.Systems = 12
number refusal.Layout = 13
number refusal.System = 14
number refusal.Uncounted = 15
number refusal.Room = 16
number refusal.Fan = 17
number refusal.Chance = 18
number refusal.Grid = 19
number refusal.Boards = 20
number refusal.Board = 21
number refusal.Cut = 22

-- what a test answers that may refuse, as a number: 0 where it does not
abbrev pub refusal_in : {A : Type 0} → Result A Refusal → ℕ
refusal_in (Ok answer) = 0
refusal_in (Err refused) = number refused
