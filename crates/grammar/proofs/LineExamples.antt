-- Worked out by the checker: lines that are read, lines with a fault, and a text of each sort. Assumes nothing.
use mathlib.Core.Path.{◌≡◌, refl}
use mathlib.Core.Bool.{true, false}
use mathlib.Core.List.{[], ◌∷◌}
use Prim.Native.Nat.{◌+◌}
use lib.ListN.{replicate}
use Rattle.rules.specs.Below.{first, some}
use Rattle.rules.specs.State.{unit_of}
use Rattle.rules.specs.Writing.{typed_of}
use Rattle.text.specs.Decimal.{text}
use Rattle.grammar.specs.Words.{lines_on, words_on}
use Rattle.grammar.specs.Numbers.{letters_on, digits_on, whole, point_in, decimal_at, share, parts, off_grid}
use Rattle.grammar.specs.Grammar.{sets, some_fans, a_system, before_thing, after_at_number, after_parts, taken, no_boards, between_parts, reading, grammar}
use Rattle.grammar.specs.Line.{row_for, place_after, set_after, stopped, walk, read_line}
use Rattle.grammar.specs.Text.{no_system, added, thing, wordy, with_line, with_lines, unplaced, fault_at, faults_of, numbers_of, typed_text}

pub lines : (read_line 2 false (text "fan 0.5 weight 3") ≡ stopped 0 [] (1 ∷ 0 ∷ 0 ∷ 0 ∷ 0 ∷ 0 ∷ some_fans ∷ 500000000 ∷ 3 ∷ 0 ∷ 0 ∷ []))
    × (read_line 2 true (text "system fails at 2 in 5 from 1 to 9") ≡ stopped 0 [] (6 ∷ 2 ∷ 5 ∷ 1 ∷ 9 ∷ 1 ∷ a_system ∷ 0 ∷ 0 ∷ 0 ∷ 0 ∷ []))
    × (read_line 2 true (text "version 2") ≡ stopped (taken + before_thing) (text "version") (replicate sets 0))
    × (read_line 2 true (text "board 1") ≡ stopped no_boards (text "board") (replicate sets 0))
    × (read_line 1 true (text "fan 0.9") ≡ stopped between_parts (text "0.9") (1 ∷ 0 ∷ 0 ∷ 0 ∷ 0 ∷ 0 ∷ 0 ∷ 0 ∷ 0 ∷ 0 ∷ (off_grid + 966367641) ∷ []))
    × (read_line 2 true (text "system fails at 2") ≡ stopped (taken + after_at_number) [] (0 ∷ 2 ∷ 0 ∷ 0 ∷ 0 ∷ 0 ∷ 0 ∷ 0 ∷ 0 ∷ 0 ∷ 0 ∷ []))
unfolding first some unit_of words_on letters_on digits_on whole point_in decimal_at share parts reading grammar row_for place_after set_after walk read_line
lines = (refl, refl, refl, refl, refl, refl)

pub texts : (faults_of (text "fan 7\n\nsystem fails at 1 dead") ≡ [])
    × (typed_text (text "fan 7\n\nsystem fails at 1 dead") ≡ typed_of 2 (7 ∷ []) (0 ∷ []) (0 ∷ []) [] (1 ∷ 1 ∷ 0 ∷ 1 ∷ 1 ∷ []))
    × (faults_of (text "# x\nfan 1 2\nfan 7") ≡ (fault_at 2 (text "2") (taken + after_parts) 0 ∷ fault_at 4 [] no_system 0 ∷ []))
unfolding first some unit_of lines_on words_on letters_on digits_on whole point_in decimal_at share parts reading grammar row_for place_after set_after walk read_line added thing wordy with_line with_lines unplaced faults_of numbers_of typed_text
texts = (refl, refl, refl)
