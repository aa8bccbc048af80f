-- deckmake(1), "FAULTS": "line L: WORD: wanted W", a line for each fault, and at most twenty of them.
use Rattle.std.specs.Prelude.{cond, List, [], ◌∷◌, ◌++◌, map, ℕ, ◌+◌, eqb, ltb, length, take}
use Rattle.rules.specs.Below.{within}
use Rattle.text.specs.Decimal.{text}
use Rattle.text.specs.Lines.{named, named_room}
use Rattle.grammar.specs.Text.{Fault}
use Rattle.faults.specs.Wanted.{wanted_text, wanted_room}

-- what is no plain character is told as a question mark
abbrev pub plain : ℕ → ℕ
plain b = cond (within 33 b 126) b 63

-- "of a longer word its first twenty bytes, and two points"; "the end" where the line has no more words
abbrev pub most_shown : ℕ
most_shown = 20

unfoldable pub shown : (word : List ℕ) → List ℕ
shown word =
    cond (eqb (length word) 0) (text "the end")
    (cond (ltb most_shown (length word)) (map plain (take most_shown word) ++ text "..") (map plain word))

abbrev pub shown_room : ℕ
shown_room = most_shown + 2

-- where it is: its line and the word there
abbrev pub spot_text : (line : ℕ) (word : List ℕ) → List ℕ
spot_text line word = named (text "line ") line ++ text ": " ++ shown word

abbrev pub spot_room : ℕ
spot_room = named_room (text "line ") + 2 + shown_room

-- a fault's line
unfoldable pub fault_text : Fault → List ℕ
fault_text f = spot_text f.line f.word ++ text ": wanted " ++ wanted_text f.wanted f.named ++ text "\n"

abbrev pub fault_room : ℕ
fault_room = spot_room + 9 + wanted_room + 1

unfoldable pub faults_text : List Fault → List ℕ
faults_text [] = []
faults_text (f ∷ faults) = fault_text f ++ faults_text faults

-- "at most twenty"
abbrev pub most_told : ℕ
most_told = 20
