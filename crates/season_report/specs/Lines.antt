-- Document 02, request 13: what is printed, and the room that each line takes at most. Every line is of names and plain numbers.
use Rattle.std.specs.Prelude.{◌≡◌, List, [], ◌++◌, ℕ, zero, suc, ◌+◌, ◌*◌, get_or, take}
use Rattle.io.specs.Counts.{IsPrefixLen}
use Rattle.rules.specs.State.{S, decimal}
use Rattle.text.specs.Decimal.{text}
use Rattle.text.specs.Lines.{named, named_room, pair_text, pair_room}
use Rattle.totals.specs.declared.tally.Refusals.{Refusals}
use Rattle.totals.specs.declared.tally.Lowest.{Lowest}
use Rattle.totals.specs.declared.tally.Widths.{Widths}
use Rattle.totals.specs.declared.tally.Tally.{Tally}
use Rattle.totals.specs.declared.Totals.{Totals}
use Rattle.rules.specs.Refusal.{last_kind}
use Rattle.totals.specs.Season.{totals_of}
use Rattle.totals.specs.Plus.{one_if, no_tally}
use Rattle.totals.specs.Stream.{files_of, is_waiting}

-- the end of a line: one named number more, or two
abbrev pub one_text : (name : List ℕ) (n : ℕ) → List ℕ
one_text name n = named name n ++ text "\n"

abbrev pub one_room : (name : List ℕ) → ℕ
one_room name = named_room name + 1

abbrev pub two_text : (first : List ℕ) (a : ℕ) (second : List ℕ) (b : ℕ) → List ℕ
two_text first a second b = pair_text first a second b ++ text "\n"

abbrev pub two_room : (first second : List ℕ) → ℕ
two_room first second = pair_room first second + 1

-- the first three lines
abbrev pub head_text : (decks refused number waiting : ℕ) → List ℕ
head_text decks refused number waiting =
    one_text (text "decks ") decks ++ two_text (text "files refused ") refused (text " number ") number ++ one_text (text "waiting ") waiting

abbrev pub head_room : ℕ
head_room = one_room (text "decks ") + two_room (text "files refused ") (text " number ") + one_room (text "waiting ")

-- "for each kind: systems answered, refused by each number"
abbrev pub answers_text : (kind answered : ℕ) → Refusals → List ℕ
answers_text kind answered r =
    pair_text (text "kind ") kind (text " answered ") answered
    ++ pair_text (text " refused 3 ") r.three (text " 4 ") r.four
    ++ two_text (text " 5 ") r.five (text " 6 ") r.six

abbrev pub answers_room : ℕ
answers_room = pair_room (text "kind ") (text " answered ") + pair_room (text " refused 3 ") (text " 4 ") + two_room (text " 5 ") (text " 6 ")

-- "the smallest low with its unit, deck and system number"
abbrev pub lowest_text : (kind : ℕ) → Lowest → List ℕ
lowest_text kind l =
    pair_text (text "kind ") kind (text " lowest ") l.low ++ pair_text (text " unit ") l.unit (text " deck ") l.deck ++ one_text (text " system ") l.system

abbrev pub lowest_room : ℕ
lowest_room = pair_room (text "kind ") (text " lowest ") + pair_room (text " unit ") (text " deck ") + one_room (text " system ")

-- "and the widths added up per unit"
abbrev pub widths_text : (kind : ℕ) → Widths → List ℕ
widths_text kind w =
    pair_text (text "kind ") kind (text " widths ") w.binary ++ pair_text (text " unit ") S (text " widths ") w.decimal ++ one_text (text " unit ") decimal

abbrev pub widths_room : ℕ
widths_room = pair_room (text "kind ") (text " widths ") + pair_room (text " unit ") (text " widths ") + one_room (text " unit ")

-- a kind's three lines, and those of the first m kinds
abbrev pub kind_text : (kind : ℕ) → Tally → List ℕ
kind_text kind t = answers_text kind t.answered t.refused ++ lowest_text kind t.lowest ++ widths_text kind t.widths

abbrev pub kind_room : ℕ
kind_room = answers_room + lowest_room + widths_room

unfoldable pub kinds_text : (m : ℕ) → List Tally → List ℕ
kinds_text zero kinds = []
kinds_text (suc m) kinds = kinds_text m kinds ++ kind_text (suc m) (get_or kinds m no_tally)

abbrev pub kinds_room : ℕ
kinds_room = kind_room * last_kind

-- "Systems refused as 1 have a line of their own"
abbrev pub other_text : (other : ℕ) → List ℕ
other_text other = one_text (text "other kinds refused 1 ") other

abbrev pub other_room : ℕ
other_room = one_room (text "other kinds refused 1 ")

-- all lines, and the room that they are given
abbrev pub report_text : Totals → (waiting : ℕ) → List ℕ
report_text t waiting = head_text t.decks t.refused t.number waiting ++ kinds_text last_kind t.kinds ++ other_text t.other

abbrev pub output_room : ℕ
output_room = 8192

-- what is printed for a stream
abbrev pub season_text : (stream : List ℕ) → List ℕ
season_text stream = report_text (totals_of (files_of stream)) (one_if (is_waiting stream))

-- the first `end` bytes of a buffer are a text
pub record Printed (words out : List ℕ) (end : ℕ) : Type 0 where
  pub counts : IsPrefixLen end out
  pub stands : take end out ≡ words
