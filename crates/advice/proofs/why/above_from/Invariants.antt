-- `why::above_from` meets its contract: what is found from the place at hand on is what is found from the first. Assumes nothing.
use Rattle.advice.proofs.Scanning.{Searched}
use Rattle.advice.proofs.why.above_from.Given as goal

abbrev pub invariant-loop-i : goal.invariant-loop-i
invariant-loop-i l = Searched l.limit l.numbers l.from l.upto l.i
