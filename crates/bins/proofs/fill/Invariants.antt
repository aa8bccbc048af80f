-- `fill` makes the rows one by one. Assumes nothing.
use Prim.Native.Nat.{suc}
use Rattle.bins.specs.Bins.{Made}
use Rattle.bins.proofs.fill.Given as goal

abbrev pub invariant-loop-b : goal.invariant-loop-b
invariant-loop-b l = Made l.k l.n (suc l.b) l.initial.table l.table
