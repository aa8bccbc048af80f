-- Faults as they are told, each read off its definition by computing. Assumes nothing.
use mathlib.Core.Path.{◌≡◌, refl}
use mathlib.Core.List.{[], ◌∷◌}
use Prim.Native.Nat.{◌+◌}
use Rattle.text.specs.Decimal.{text, digits_in}
use Rattle.grammar.specs.Numbers.{off_grid}
use Rattle.grammar.specs.Text.{fault_at}
use Rattle.faults.specs.Wanted.{by_place, by_name, wanted_text}
use Rattle.faults.specs.Told.{shown, fault_text}

-- a word that its place does not take; a word that is missing
misspelt : fault_text (fault_at 3 (text "wieght") 70 0) ≡ text "line 3: wieght: wanted weight, on or the line's end\n"
unfolding fault_text shown wanted_text by_place digits_in
misspelt = refl

missing : fault_text (fault_at 12 [] 104 0) ≡ text "line 12: the end: wanted a number up to 65535\n"
unfolding fault_text shown wanted_text by_place digits_in
missing = refl

-- a word of 21 bytes, and one of bytes that are no plain characters
cut : fault_text (fault_at 1 (text "systems-of-the-deck-4") 65 0) ≡ text "line 1: systems-of-the-deck-..: wanted version, fan, fans, board or system\n"
unfolding fault_text shown wanted_text by_place digits_in
cut = refl

no_text : fault_text (fault_at 1 (255 ∷ 0 ∷ 97 ∷ []) 66 0) ≡ text "line 1: ??a: wanted fan, fans, board or system\n"
unfolding fault_text shown wanted_text by_place digits_in
no_text = refl

-- the two nearest parts; the number of boards
off-grid : fault_text (fault_at 7 (text "0.3") 129 (off_grid + 322122547)) ≡ text "line 7: 0.3: wanted a decimal on the grid of 2^30, as 322122547 or 322122548 parts\n"
unfolding fault_text shown wanted_text by_name digits_in
off-grid = refl

no-such-board : fault_text (fault_at 9 (text "4") 136 3) ≡ text "line 9: 4: wanted a board from 1 to 3\n"
unfolding fault_text shown wanted_text by_name digits_in
no-such-board = refl
