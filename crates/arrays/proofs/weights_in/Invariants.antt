-- `weights_in` meets its contract: the array is filled from the front, one number of two bytes a turn. Assumes nothing.
use mathlib.Core.Path.{◌≡◌}
use Rattle.rules.specs.Below.{list_below}
use Rattle.rules.specs.File.{most_fans, weight_bytes, nth_number}
use Rattle.arrays.specs.Padded.{padded}
use Rattle.arrays.proofs.weights_in.Given as goal

abbrev pub invariant-loop-i : goal.invariant-loop-i
invariant-loop-i l = l.weights ≡ padded most_fans 0 (list_below l.i (nth_number weight_bytes l.bytes l.from))
