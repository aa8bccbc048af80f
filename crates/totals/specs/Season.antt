-- Document 02, request 13, "Season report": "Each total is that of the decks read, worked from their single answers." The single answers in reading order, and the
-- totals over them.
use Rattle.std.specs.Prelude.{Bool, true, false, cond, not, ◌&&◌, ◌||◌, List, [], ◌∷◌, ◌++◌, map, ℕ, suc, ◌*◌, ◌-◌, ltb, eqb, length}
use Rattle.rules.specs.declared.Rating.{Rating}
use Rattle.rules.specs.declared.Rating.TheVariants.{Range, Refused}
use Rattle.rules.specs.Below.{list_below, total}
use Rattle.rules.specs.State.{S, decimal, unit_of}
use Rattle.rules.specs.Refusal.{last_kind}
use Rattle.rules.specs.File.{version_in, count_in, system_in, file_refusal, answer_in}
use Rattle.totals.specs.declared.tally.Refusals.{Refusals}
use Rattle.totals.specs.declared.tally.Lowest.{Lowest}
use Rattle.totals.specs.declared.tally.Widths.{Widths}
use Rattle.totals.specs.declared.tally.Tally.{Tally}
use Rattle.totals.specs.declared.Totals.{Totals}

-- those of a list that pass a test, in their order
unfoldable pub chosen : {A : Type 0} → (A → Bool) → List A → List A
chosen test [] = []
chosen test (x ∷ xs) = cond (test x) (x ∷ chosen test xs) (chosen test xs)

-- does one of a list pass a test?
unfoldable pub some_of : {A : Type 0} → (A → Bool) → List A → Bool
some_of test [] = false
some_of test (x ∷ xs) = test x || some_of test xs

-- a number of the first of a list; 0 where there is none
abbrev pub of_first : {A : Type 0} → (A → ℕ) → List A → ℕ
of_first f [] = 0
of_first f (x ∷ xs) = f x

-- a single answer: of which deck and which system of it, both counted from 1, of which version and kind
pub record Single : Type 0 where
  pub deck : ℕ
  pub system : ℕ
  pub version : ℕ
  pub kind : ℕ
  pub answer : Rating

-- that of a file's system, counted from 0
abbrev pub single_in : (deck : ℕ) (bytes : List ℕ) → ℕ → Single
single_in deck bytes s = record { deck = deck; system = suc s; version = version_in bytes; kind = (system_in bytes s).rule.kind; answer = answer_in bytes s }

-- a file's, and those of decks one after another, the first of them numbered
abbrev pub singles_in : (deck : ℕ) (bytes : List ℕ) → List Single
singles_in deck bytes = list_below (count_in bytes) (single_in deck bytes)

unfoldable pub singles_from : (deck : ℕ) → List (List ℕ) → List Single
singles_from deck [] = []
singles_from deck (file ∷ files) = singles_in deck file ++ singles_from (suc deck) files

-- the files that are decks, and "a refused file"
abbrev pub is_refused : (file : List ℕ) → Bool
is_refused file = not (eqb (file_refusal file) 0)

abbrev pub decks_of : (files : List (List ℕ)) → List (List ℕ)
decks_of files = chosen (λ file. not (is_refused file)) files

abbrev pub refused_of : (files : List (List ℕ)) → List (List ℕ)
refused_of files = chosen is_refused files

-- "the decks read" and their single answers
abbrev pub singles_of : (files : List (List ℕ)) → List Single
singles_of files = singles_from 1 (decks_of files)

-- what an answer says
abbrev pub is_range : Rating → Bool
is_range (Range low high) = true
is_range (Refused number) = false

abbrev pub refused_by : ℕ → Rating → Bool
refused_by number (Range low high) = false
refused_by number (Refused r) = eqb r number

abbrev pub low_in : Rating → ℕ
low_in (Range low high) = low
low_in (Refused number) = 0

abbrev pub width_in : Rating → ℕ
width_in (Range low high) = high - low
width_in (Refused number) = 0

abbrev pub unit_in : Single → ℕ
unit_in x = unit_of x.version

-- "for each kind: systems answered"
abbrev pub answered_of : (kind : ℕ) → List Single → List Single
answered_of kind xs = chosen (λ x. eqb x.kind kind && is_range x.answer) xs

-- "refused by each number"
abbrev pub refused_as : (kind number : ℕ) → List Single → ℕ
refused_as kind number xs = length (chosen (λ x. eqb x.kind kind && refused_by number x.answer) xs)

abbrev pub refusals_of : (kind : ℕ) → List Single → Refusals
refusals_of kind xs = record { three = refused_as kind 3 xs; four = refused_as kind 4 xs; five = refused_as kind 5 xs; six = refused_as kind 6 xs }

-- "lows of two units compared as exact fractions": is the low of x, over its unit, below that of y over its own?
abbrev pub lower : (x y : Single) → Bool
lower x y = ltb (low_in x.answer * unit_in y) (low_in y.answer * unit_in x)

-- "the smallest low": those than which none is lower
abbrev pub smallest : List Single → List Single
smallest xs = chosen (λ x. not (some_of (λ y. lower y x) xs)) xs

-- "with its unit, deck and system number (first in reading order on a tie"; "a kind with none answered shows zeros"
abbrev pub lowest_of : (answered : List Single) → Lowest
lowest_of answered = record {
  low = of_first (λ x. low_in x.answer) (smallest answered);
  unit = of_first unit_in (smallest answered);
  deck = of_first (λ x. x.deck) (smallest answered);
  system = of_first (λ x. x.system) (smallest answered);
}

-- "the widths added up per unit"
abbrev pub widths_in : (unit : ℕ) (answered : List Single) → ℕ
widths_in unit answered = total (map (λ x. width_in x.answer) (chosen (λ x. eqb (unit_in x) unit) answered))

abbrev pub widths_of : (answered : List Single) → Widths
widths_of answered = record { binary = widths_in S answered; decimal = widths_in decimal answered }

-- the totals of a kind
abbrev pub tally_of : (kind : ℕ) → List Single → Tally
tally_of kind xs = record {
  answered = length (answered_of kind xs);
  refused = refusals_of kind xs;
  lowest = lowest_of (answered_of kind xs);
  widths = widths_of (answered_of kind xs);
}

-- "Systems refused as 1 have a line of their own"
abbrev pub other_of : List Single → ℕ
other_of xs = length (chosen (λ x. refused_by 1 x.answer) xs)

-- the kinds, from 1 to the last
abbrev pub kinds_of : List Single → List Tally
kinds_of xs = list_below last_kind (λ k. tally_of (suc k) xs)

-- all totals of the files read: "A refused file is counted", with its number
unfoldable pub totals_of : (files : List (List ℕ)) → Totals
totals_of files = record {
  decks = length (decks_of files);
  refused = length (refused_of files);
  number = of_first file_refusal (refused_of files);
  other = other_of (singles_of files);
  kinds = kinds_of (singles_of files);
}
