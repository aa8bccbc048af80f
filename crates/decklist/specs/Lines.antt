-- Document 01, "Deck file and printing": "Its first line gives n and m, then one line per system: its number, then low and high, or the refusal."
-- Where percents are asked for, an answered line has them too. And the room that each line takes at most.
use Rattle.std.specs.Prelude.{Bool, true, false, List, ◌++◌, ℕ, ◌+◌, ◌*◌}
use Rattle.rules.specs.declared.Rating.{Rating}
use Rattle.rules.specs.declared.Rating.TheVariants.{Range, Refused}
use Rattle.rules.specs.State.{unit_of}
use Rattle.rules.specs.File.{most_systems, version_in, fans_in, count_in, system_in, deck_in, answer_in}
use Rattle.text.specs.Decimal.{text}
use Rattle.text.specs.Lines.{named, named_room, pair_text, pair_room}
use Rattle.advice.specs.declared.why.Why.{Why}
use Rattle.advice.specs.System.{system_why}
use Rattle.printing.specs.Lines.{lines_text, worded_text, worded_room}
use Rattle.percent.specs.Percent.{range_text, range_room}

-- what follows low and high, in parts of the unit u: the same in percent where that is asked for, and the line's end
abbrev pub end_text : (percent : Bool) (u low high : ℕ) → List ℕ
end_text false u low high = text "\n"
end_text true u low high = range_text u low high ++ text "\n"

abbrev pub end_room : ℕ
end_room = range_room + 1

-- "then low and high, or the refusal", with why it is given where words are asked for
abbrev pub answer_text : (percent : Bool) (u low high : ℕ) → List ℕ
answer_text percent u low high = pair_text (text " low ") low (text " high ") high ++ end_text percent u low high

abbrev pub answer_room : ℕ
answer_room = pair_room (text " low ") (text " high ") + end_room

abbrev pub rating_text : (percent words : Bool) (u : ℕ) (why : ℕ → Why) → Rating → List ℕ
rating_text percent words u why (Range low high) = answer_text percent u low high
rating_text percent words u why (Refused number) = worded_text words (why number) number

abbrev pub rating_room : ℕ
rating_room = answer_room + worded_room

-- "one line per system: its number"
abbrev pub line_text : (percent words : Bool) (u system : ℕ) (why : ℕ → Why) → Rating → List ℕ
line_text percent words u system why rating = named (text "system ") system ++ rating_text percent words u why rating

abbrev pub line_room : ℕ
line_room = named_room (text "system ") + rating_room

-- of a file's system, counted from 0, in parts of the file's unit; and of all its systems
abbrev pub why_in : (bytes : List ℕ) (s number : ℕ) → Why
why_in bytes s number = system_why (deck_in bytes) (system_in bytes s) number

abbrev pub system_line : (percent words : Bool) (bytes : List ℕ) (s : ℕ) → List ℕ
system_line percent words bytes s = line_text percent words (unit_of (version_in bytes)) (s + 1) (why_in bytes s) (answer_in bytes s)

abbrev pub systems_text : (percent words : Bool) (bytes : List ℕ) → List ℕ
systems_text percent words bytes = lines_text (count_in bytes) (system_line percent words bytes)

abbrev pub lines_room : ℕ
lines_room = line_room * most_systems

-- "Its first line gives n and m"
abbrev pub head_text : (n m : ℕ) → List ℕ
head_text n m = pair_text (text "deck ") n (text " systems ") m ++ text "\n"

abbrev pub head_room : ℕ
head_room = pair_room (text "deck ") (text " systems ") + 1

-- all that decklist prints for a file that is not refused, and the room that it is given
abbrev pub list_text : (percent words : Bool) → List ℕ → List ℕ
list_text percent words bytes = head_text (fans_in bytes) (count_in bytes) ++ systems_text percent words bytes

abbrev pub output_room : ℕ
output_room = 16384
