-- `fours_in` meets its contract: the array is filled from the front, one number of four bytes a turn. Assumes nothing.
use mathlib.Core.Path.{◌≡◌}
use Rattle.rules.specs.Below.{list_below}
use Rattle.rules.specs.File.{survival_bytes, nth_number}
use Rattle.arrays.specs.Padded.{padded}
use Rattle.arrays.proofs.fours_in.Given as goal

abbrev pub invariant-loop-i : goal.invariant-loop-i
invariant-loop-i g l = l.numbers ≡ padded g.row.N 0 (list_below l.i (nth_number survival_bytes l.bytes l.from))
