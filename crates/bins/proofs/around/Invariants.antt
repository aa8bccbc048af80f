-- `around` adds up, over the failed ones around the end, the ways to lay them and the others. Assumes nothing.
use mathlib.Core.Path.{◌≡◌}
use Rattle.rules.specs.Below.{sum_below}
use Rattle.bins.specs.Bins.{term}
use Rattle.bins.proofs.around.Given as goal

abbrev pub invariant-loop-m : goal.invariant-loop-m
invariant-loop-m l = l.sum ≡ sum_below l.m (term l.top l.table)
