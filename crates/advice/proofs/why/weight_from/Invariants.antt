-- `why::weight_from` meets its contract: the sum so far and what the rest weighs is what all weigh. Assumes nothing.
use Prim.Native.Nat.{◌+◌}
use Rattle.advice.proofs.Scanning.{Summed}
use Rattle.advice.proofs.why.weight_from.Given as goal

abbrev pub invariant-loop-weight : goal.invariant-loop-weight
invariant-loop-weight l = Summed l.weights l.from l.upto l.sum (l.from + l.weight-index)
