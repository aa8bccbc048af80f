-- `above_unit` says whether one of the numbers it passed is above the unit. Assumes nothing.
use mathlib.Core.Path.{◌≡◌}
use lib.Dec.{ltb}
use lib.ListN.{get_or}
use Rattle.rules.specs.Below.{some}
use Rattle.asked.proofs.above_unit.Given as goal

abbrev pub invariant-loop-number : goal.invariant-loop-number
invariant-loop-number l = l.above ≡ some (λ k. ltb l.most (get_or l.survival k 0)) l.number-index
