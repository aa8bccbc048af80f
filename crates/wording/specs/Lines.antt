-- deckshow(1): a deck's lines, each as deckmake reads it, and the room that each takes at most.
use Rattle.std.specs.Prelude.{cond, ◌&&◌, List, [], ◌++◌, ℕ, ◌+◌, eqb, length}
use Rattle.text.specs.Decimal.{text}
use Rattle.text.specs.Lines.{named, named_room, pair_text, pair_room}
use Rattle.wording.specs.Numbers.{one_text, one_room, some_text}
use Rattle.wording.specs.Rule.{rule_text, rule_room}

-- "version V", "board P"
abbrev pub version_text : (version : ℕ) → List ℕ
version_text version = one_text (text "version ") version (text "\n")

abbrev pub version_room : ℕ
version_room = one_room (text "version ") (text "\n")

abbrev pub board_text : (parts : ℕ) → List ℕ
board_text parts = one_text (text "board ") parts (text "\n")

abbrev pub board_room : ℕ
board_room = one_room (text "board ") (text "\n")

-- "fan P [weight W] [on B]"
unfoldable pub fan_text : (parts weight board : ℕ) → List ℕ
fan_text parts weight board = named (text "fan ") parts ++ some_text (text " weight ") weight ++ some_text (text " on ") board ++ text "\n"

abbrev pub fan_room : ℕ
fan_room = named_room (text "fan ") + named_room (text " weight ") + named_room (text " on ") + 1

-- "system RULE [from A to B]": the stretch where it is not the whole deck of n fans
abbrev pub stretch_text : (n a b : ℕ) → List ℕ
stretch_text n a b = cond (eqb a 1 && eqb b n) [] (pair_text (text " from ") a (text " to ") b)

abbrev pub stretch_room : ℕ
stretch_room = pair_room (text " from ") (text " to ")

unfoldable pub system_text : (n kind first second a b : ℕ) → List ℕ
system_text n kind first second a b = text "system " ++ rule_text kind first second ++ stretch_text n a b ++ text "\n"

abbrev pub system_room : ℕ
system_room = length (text "system ") + rule_room + stretch_room + 1
