-- Document 02, request 02, "One rating call": what is asked of a rating, the part of the lists that is rated, and the part's low, high and E.
-- "The whole deck is stretch 1 to n", and n of the third condition is the stretch's length.
use Rattle.std.specs.Prelude.{Bool, true, false, List, ℕ, suc, ◌+◌, ◌-◌, length}
use Rattle.rules.specs.declared.Rule.{Rule}
use Rattle.rules.specs.declared.Question.{Question}
use Rattle.rules.specs.declared.RatedLists.{RatedLists}
use Rattle.rules.specs.State.{unit_of, beside_of}
use Rattle.rules.specs.Figure.{Third}
use Rattle.rules.specs.Boards.{boards_read, figure_behind, exact_behind}
use Rattle.rules.specs.Stretch.{stretch}

pub record Asked : Type 0 where
  pub version : ℕ
  pub rule : Rule
  pub a : ℕ
  pub b : ℕ
  pub survival : List ℕ
  pub weights : List ℕ
  pub more : List ℕ
  pub boards : List ℕ
  pub switchboards : List ℕ

-- a question by its numbers, that of what is asked, and what is asked by a question and lists
abbrev pub question_of : (version : ℕ) → Rule → (a b : ℕ) → Question
question_of version rule a b = record { version = version; rule = rule; a = a; b = b }

abbrev pub question_in : Asked → Question
question_in q = question_of q.version q.rule q.a q.b

abbrev pub asked_of : Question → (survival weights more boards switchboards : List ℕ) → Asked
asked_of question survival weights more boards switchboards = record {
  version = question.version;
  rule = question.rule;
  a = question.a;
  b = question.b;
  survival = survival;
  weights = weights;
  more = more;
  boards = boards;
  switchboards = switchboards;
}

abbrev pub asked_with : Question → RatedLists → Asked
asked_with question lists = asked_of question lists.survival.now lists.weights.now lists.more.now lists.boards.now lists.switchboards.now

-- "Conditions two and three read S as the file's own unit"
abbrev pub unit_in : Asked → ℕ
unit_in q = unit_of q.version

-- n, the list's length
abbrev pub length_of : Asked → ℕ
length_of q = length q.survival

-- the stretch's length, its survival numbers and its weights: "answers as a list of those components alone would, weights too"
abbrev pub size_of : Asked → ℕ
size_of q = suc q.b - q.a

abbrev pub part_of : Asked → List ℕ
part_of q = stretch q.a q.b q.survival

abbrev pub weights_of : Asked → List ℕ
weights_of q = stretch q.a q.b q.weights

-- what is read with the rule: the stretch's weights, or the further pairs, which are the same for every stretch
abbrev pub read_of : Asked → List ℕ
read_of q = beside_of q.rule (weights_of q) q.more

-- request 11: the board numbers of the stretch's fans, all the boards' survival numbers, and how many boards there are, g
abbrev pub boards_of : Asked → List ℕ
boards_of q = boards_read q.version (stretch q.a q.b q.boards)

abbrev pub switchboards_of : Asked → List ℕ
switchboards_of q = boards_read q.version q.switchboards

abbrev pub board_count : Asked → ℕ
board_count q = length (switchboards_of q)

-- the figures, low with rounding down and high with rounding up, and E
abbrev pub rounded_of : (up : Bool) → Asked → ℕ
rounded_of up q = figure_behind up (unit_in q) q.rule (part_of q) (read_of q) (boards_of q) (switchboards_of q)

abbrev pub low_of : Asked → ℕ
low_of q = rounded_of false q

abbrev pub high_of : Asked → ℕ
high_of q = rounded_of true q

abbrev pub exact_of : Asked → ℕ
exact_of q = exact_behind (unit_in q) q.rule (part_of q) (read_of q) (boards_of q) (switchboards_of q)

-- "Condition three then sums over n + g parts"; n is the stretch's length
abbrev pub parts_of : Asked → ℕ
parts_of q = size_of q + board_count q

-- the third condition of two figures
abbrev pub ThirdOf : Asked → (low high : ℕ) → Type 0
ThirdOf q low high = Third (unit_in q) (parts_of q) low high (exact_of q)
