-- What a program's words ask for: a word after the other, by the program's table of options and the most operands that it takes. What decides first stands:
-- `--help`, `--version`, an option that the table does not have, an operand too many.
use Rattle.std.specs.Prelude.{Bool, true, false, cond, not, ◌&&◌, List, [], ◌∷◌, ℕ, zero, suc, ◌+◌, ◌-◌, ◌*◌, ◌/◌, ◌≤◌, eqb, leb, ltb, length, get_or, set, ◌≡◌}
use Rattle.text.specs.Decimal.{text}
use Rattle.options.specs.Texts.{same_text}
use Rattle.options.specs.declared.Asked.{Asked}
use Rattle.options.specs.declared.Task.{Task}
use Rattle.options.specs.declared.Task.TheVariants.{Work, Help, Version, Unknown, Many, Missing}

-- a row of the table: a name of at most 11 bytes, blanks behind it, then `=` where a word belongs to the option
abbrev pub name_length : ℕ
name_length = 11

abbrev pub row_length : ℕ
row_length = 12

abbrev pub most_options : ℕ
most_options = 8

abbrev pub rows_of : (table : List ℕ) → ℕ
rows_of table = length table / row_length

-- are so many bytes of a row, from byte j on, those of a word, with blanks behind it?
unfoldable pub same_from : (left j : ℕ) (table : List ℕ) (from : ℕ) (word : List ℕ) → Bool
same_from zero j table from word = true
same_from (suc left) j table from word = eqb (get_or table (from + j) 0) (get_or word j 32) && same_from left (suc j) table from word

abbrev pub row_is : (table : List ℕ) (k : ℕ) (word : List ℕ) → Bool
row_is table k word = leb (length word) name_length && same_from name_length 0 table (row_length * k) word

-- the first of so many rows, from row k on, that has the word for its name; behind them where none has
unfoldable pub option_from : (left k : ℕ) (table word : List ℕ) → ℕ
option_from zero k table word = k
option_from (suc left) k table word = cond (row_is table k word) k (option_from left (suc k) table word)

abbrev pub option_in : (table word : List ℕ) → ℕ
option_in table word = option_from (rows_of table) 0 table word

-- does a word belong to option k?
abbrev pub takes_word : (table : List ℕ) (k : ℕ) → Bool
takes_word table k = eqb (get_or table (row_length * k + name_length) 0) 61

-- no word has decided what is to be done
abbrev pub is_work : Task → Bool
is_work Work = true
is_work Help = false
is_work Version = false
is_work Unknown = false
is_work Many = false
is_work Missing = false

-- before any word
abbrev pub nothing : Asked
nothing = record { task = Work; at = 0; given = 0 ∷ 0 ∷ 0 ∷ 0 ∷ 0 ∷ 0 ∷ 0 ∷ 0 ∷ []; waits = 0; ended = 0; operands = 0; first = 0 }

-- a word decides what is to be done
abbrev pub decided : (task : Task) → Asked → (place : ℕ) → Asked
decided task a place = record {
  task = task;
  at = place;
  given = a.given;
  waits = a.waits;
  ended = a.ended;
  operands = a.operands;
  first = a.first;
}

-- option k is given at a place, and waits for its word or not
abbrev pub option_at : (k waits : ℕ) → Asked → (place : ℕ) → Asked
option_at k waits a place = record {
  task = a.task;
  at = a.at;
  given = set a.given k place;
  waits = waits;
  ended = a.ended;
  operands = a.operands;
  first = a.first;
}

abbrev pub ended_at : Asked → (place : ℕ) → Asked
ended_at a place = record { task = a.task; at = a.at; given = a.given; waits = a.waits; ended = place; operands = a.operands; first = a.first }

-- an operand: the first one's place is kept
abbrev pub one_operand : Asked → (place : ℕ) → Asked
one_operand a place = record {
  task = a.task;
  at = a.at;
  given = a.given;
  waits = a.waits;
  ended = a.ended;
  operands = a.operands + 1;
  first = cond (eqb a.operands 0) place a.first;
}

abbrev pub with_operand : (most : ℕ) → Asked → (place : ℕ) → Asked
with_operand most a place = cond (ltb a.operands most) (one_operand a place) (decided Many a place)

-- an option of the table, or one that it does not have
abbrev pub with_row : (table : List ℕ) → Asked → (place k : ℕ) → Asked
with_row table a place k = cond (ltb k (rows_of table)) (option_at k (cond (takes_word table k) (k + 1) 0) a place) (decided Unknown a place)

abbrev pub with_option : (table : List ℕ) → Asked → (place : ℕ) (word : List ℕ) → Asked
with_option table a place word =
    cond (same_text word (text "--")) (ended_at a place)
    (cond (same_text word (text "--help")) (decided Help a place)
    (cond (same_text word (text "--version")) (decided Version a place)
    (with_row table a place (option_in table word))))

-- a word of two bytes or more that begins with a `-` is an option, unless `--` was before it
abbrev pub is_option : (ended : ℕ) (word : List ℕ) → Bool
is_option ended word = eqb ended 0 && leb 2 (length word) && eqb (get_or word 0 0) 45

-- one word more
unfoldable pub heard : (table : List ℕ) (most : ℕ) → Asked → (place : ℕ) (word : List ℕ) → Asked
heard table most a place word =
    cond (is_work a.task)
    (cond (eqb a.waits 0)
    (cond (is_option a.ended word) (with_option table a place word) (with_operand most a place))
    (option_at (a.waits - 1) 0 a place))
    a

-- all words, the first at place 1; an option that waits at their end misses its word
unfoldable pub heard_all : (table : List ℕ) (most : ℕ) → Asked → (place : ℕ) → List (List ℕ) → Asked
heard_all table most a place [] = a
heard_all table most a place (word ∷ words) = heard_all table most (heard table most a place word) (suc place) words

abbrev pub finished : Asked → (place : ℕ) → Asked
finished a place = cond (is_work a.task && not (eqb a.waits 0)) (decided Missing a place) a

abbrev pub asked_by : (table : List ℕ) (most : ℕ) → List (List ℕ) → Asked
asked_by table most words = finished (heard_all table most nothing 1 words) (length words)

-- what is asked keeps within the table
pub record Sound (a : Asked) : Type 0 where
  pub eight : length a.given ≡ most_options
  pub waiting : a.waits ≤ most_options
