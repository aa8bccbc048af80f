-- `fill` takes one component after the other, from none read to all. Assumes nothing.
use Prim.Native.Nat.{◌+◌, ◌≤◌}
use lib.ListN.{drop}
use Rattle.rules.specs.Below.{total}
use Rattle.rules.specs.Refusal.{heaviest, cells}
use Rattle.bins.specs.Cells.{Outside}
use Rattle.counts.specs.Sums.{Sums}
use Rattle.counts.proofs.sums.fill.Given as goal

abbrev pub invariant-loop-i : goal.invariant-loop-i
invariant-loop-i l =
    (l.reach + total (drop l.i l.weights) ≤ heaviest)
    × Sums l.k l.weights l.i l.reach l.table
    × Outside 0 cells l.initial.table l.table
