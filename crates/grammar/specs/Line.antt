-- One line: from place to place by its words, up to its end or to the first word that the place does not take.
use Rattle.std.specs.Prelude.{Bool, cond, ◌&&◌, List, [], ◌∷◌, ℕ, ◌+◌, ◌*◌, eqb, ltb, get_or, set, replicate}
use Rattle.rules.specs.Below.{within, first}
use Rattle.grammar.specs.Grammar.{as_number, reading, sets, per_row, before_all, before_thing, taken, rows, grammar}
use Rattle.grammar.specs.Words.{words_of}

-- column k of row i
abbrev pub cell : (i k : ℕ) → ℕ
cell i k = get_or grammar (i * per_row + k) 0

-- does row i take this word at this place?
abbrev pub takes : (version place : ℕ) (word : List ℕ) → ℕ → Bool
takes version place word i = eqb (cell i 0) place && within (cell i 2) (reading version (cell i 1) word) (cell i 3)

-- the first row that does; `rows` where none does
unfoldable pub row_for : (version place : ℕ) (word : List ℕ) → ℕ
row_for version place word = first (takes version place word) rows

-- what is set: to the row's own value by a word, to the number itself by a number
abbrev pub value_by : (version i : ℕ) (word : List ℕ) → ℕ
value_by version i word = cond (ltb (cell i 1) as_number) (cell i 5) (reading version (cell i 1) word)

unfoldable pub place_after : (version place : ℕ) (word : List ℕ) → ℕ
place_after version place word = cond (ltb (row_for version place word) rows) (cell (row_for version place word) 6) (taken + place)

unfoldable pub set_after : (version place : ℕ) (word : List ℕ) (before : List ℕ) → List ℕ
set_after version place word before =
    cond (ltb (row_for version place word) rows) (set before (cell (row_for version place word) 4) (value_by version (row_for version place word) word)) before

-- how a line ends: 0 where it has been read, else the fault; at which word, the empty one at the line's end; and what it has set
pub record Read : Type 0 where
  pub ended : ℕ
  pub word : List ℕ
  pub set : List ℕ

abbrev pub stopped : (ended : ℕ) (word set : List ℕ) → Read
stopped ended word set = record { ended = ended; word = word; set = set }

abbrev pub goes_on : (place : ℕ) → Bool
goes_on place = within 1 place 63

unfoldable pub walk : (version place : ℕ) (set : List ℕ) (words : List (List ℕ)) → Read
walk version place set [] = stopped (place_after version place []) [] (set_after version place [] set)
walk version place set (w ∷ words) =
    cond (goes_on (place_after version place w))
    (walk version (place_after version place w) (set_after version place w set) words)
    (stopped (place_after version place w) w (set_after version place w set))

-- "version .. first": a line that may be the version, or comes after another
abbrev pub start_of : (begun : Bool) → ℕ
start_of begun = cond begun before_thing before_all

unfoldable pub read_line : (version : ℕ) (begun : Bool) (line : List ℕ) → Read
read_line version begun line = walk version (start_of begun) (replicate sets 0) (words_of line)
