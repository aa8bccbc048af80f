-- What deckstate prints: "`system S works`, `system S fails from F` (kinds 4 to 8, F the fan's number on the deck, not in the stretch), `system S fails` (kinds 1
-- to 3) or `system S refused R`". And the room that each line takes at most.
use Rattle.std.specs.Prelude.{cond, List, ◌++◌, ℕ, ◌+◌, ◌*◌, eqb}
use Rattle.rules.specs.declared.Verdict.{Verdict}
use Rattle.rules.specs.declared.Verdict.TheVariants.{Works, Fails, Refused}
use Rattle.rules.specs.File.{most_systems, count_in}
use Rattle.text.specs.Decimal.{text}
use Rattle.text.specs.Lines.{named, named_room, refused_text}
use Rattle.printing.specs.Lines.{lines_text}
use Rattle.states.specs.States.{verdict_in}
use Rattle.saying.specs.Said.{most_shown, shown}
use Rattle.deckstate.specs.Words.{wants_board, wants_no_board, wants_number}

-- place 0 is none
abbrev pub place_text : (place : ℕ) → List ℕ
place_text place = cond (eqb place 0) (text " fails\n") (named (text " fails from ") place ++ text "\n")

abbrev pub verdict_text : Verdict → List ℕ
verdict_text Works = text " works\n"
verdict_text (Fails place) = place_text place
verdict_text (Refused number) = refused_text number

abbrev pub verdict_room : ℕ
verdict_room = named_room (text " fails from ") + 1

abbrev pub line_text : (system : ℕ) → Verdict → List ℕ
line_text system verdict = named (text "system ") system ++ verdict_text verdict

abbrev pub line_room : ℕ
line_room = named_room (text "system ") + verdict_room

-- of a file's system, counted from 0
abbrev pub system_line : (state : ℕ) (bytes : List ℕ) (s : ℕ) → List ℕ
system_line state bytes s = line_text (s + 1) (verdict_in bytes s state)

abbrev pub lines_room : ℕ
lines_room = line_room * most_systems

-- all that is printed for a state and a file that is not refused, and the room that it is given
abbrev pub states_text : (state : ℕ) → List ℕ → List ℕ
states_text state bytes = lines_text (count_in bytes) (system_line state bytes)

abbrev pub output_room : ℕ
output_room = 2048

-- the line of a wrong word: "one line on standard error that says which"; and what was wanted in its place
abbrev pub most_text : (before : List ℕ) (most : ℕ) (behind : List ℕ) → List ℕ
most_text before most behind = named before most ++ behind

abbrev pub wanted_text : (wanted most : ℕ) → List ℕ
wanted_text wanted most =
    cond (eqb wanted wants_board) (most_text (text "wanted a board from 1 to ") most (text "\n"))
    (cond (eqb wanted wants_no_board) (text "this deck has no boards\n")
    (cond (eqb wanted wants_number) (most_text (text "wanted the number of a board from 1 to ") most (text " behind it\n"))
    (most_text (text "wanted a fan from 1 to ") most (text ", a range as 3-7 or a list as 3,4,9\n"))))

abbrev pub wanted_room : ℕ
wanted_room = 96

abbrev pub wrong_text : (wrong : ℕ) (word : List ℕ) (wanted most : ℕ) → List ℕ
wrong_text wrong word wanted most =
    named (text "deckstate: word ") wrong ++ (text ", \"" ++ shown word ++ text "\": ") ++ wanted_text wanted most

abbrev pub wrong_room : ℕ
wrong_room = named_room (text "deckstate: word ") + most_shown + 6 + wanted_room
