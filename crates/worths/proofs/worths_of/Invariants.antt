-- `worths_of` meets its contract: both arrays are filled from the front, one fan a turn. Assumes nothing.
use mathlib.Core.Path.{◌≡◌}
use Prim.Native.Nat.{◌+◌}
use lib.IntN.{pos}
use Rattle.rules.specs.File.{worth_in}
use Rattle.rules.specs.Below.{list_below}
use Rattle.arrays.specs.Padded.{padded}
use Rattle.drawn.specs.Drawn.{most_drawn}
use Rattle.worths.specs.Worths.{lower_end, upper_end}
use Rattle.worths.proofs.worths_of.Given as goal

abbrev pub invariant-loop-i : goal.invariant-loop-i
invariant-loop-i l =
    (l.lower ≡ padded most_drawn (pos 0) (list_below l.i (λ j. lower_end (worth_in l.file l.s (j + 1)))))
    × (l.upper ≡ padded most_drawn (pos 0) (list_below l.i (λ j. upper_end (worth_in l.file l.s (j + 1)))))
