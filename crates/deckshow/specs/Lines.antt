-- deckshow(1): a deck file as the text that deckmake reads: its version, its boards, its fans and its systems, a line each.
use Rattle.std.specs.Prelude.{List, ◌++◌, ℕ, ◌+◌, ◌*◌, length, get_or}
use Rattle.rules.specs.declared.System.{System}
use Rattle.rules.specs.Refusal.{most_boards}
use Rattle.rules.specs.File.{Deck, most_fans, most_systems, deck_in}
use Rattle.arrays.specs.Padded.{no_system}
use Rattle.printing.specs.Lines.{lines_text}
use Rattle.wording.specs.Lines.{version_text, version_room, board_text, board_room, fan_text, fan_room, system_text, system_room}

-- of a board, a fan and a system of a deck by its place, counted from 0; a fan without a weight or a board has 0
abbrev pub board_line : Deck → ℕ → List ℕ
board_line d i = board_text (get_or d.switchboards i 0)

abbrev pub fan_line : Deck → ℕ → List ℕ
fan_line d i = fan_text (get_or d.survival i 0) (get_or d.weights i 0) (get_or d.boards i 0)

abbrev pub in_words : (n : ℕ) → System → List ℕ
in_words n s = system_text n s.rule.kind s.rule.first s.rule.second s.a s.b

abbrev pub system_line : Deck → ℕ → List ℕ
system_line d s = in_words (length d.survival) (get_or d.systems s no_system)

-- and of all of them
abbrev pub boards_text : Deck → List ℕ
boards_text d = lines_text (length d.switchboards) (board_line d)

abbrev pub fans_text : Deck → List ℕ
fans_text d = lines_text (length d.survival) (fan_line d)

abbrev pub systems_text : Deck → List ℕ
systems_text d = lines_text (length d.systems) (system_line d)

abbrev pub deck_text : Deck → List ℕ
deck_text d = version_text d.version ++ boards_text d ++ fans_text d ++ systems_text d

-- all that deckshow prints for a file that is not refused, and the room that it takes
abbrev pub show_text : (bytes : List ℕ) → List ℕ
show_text bytes = deck_text (deck_in bytes)

abbrev pub boards_room : ℕ
boards_room = board_room * most_boards

abbrev pub fans_room : ℕ
fans_room = fan_room * most_fans

abbrev pub systems_room : ℕ
systems_room = system_room * most_systems

abbrev pub output_room : ℕ
output_room = version_room + boards_room + fans_room + systems_room
