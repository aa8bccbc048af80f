-- `add` adds cells to cells behind them, which it does not read again. Assumes nothing.
use Prim.Native.Nat.{◌+◌}
use lib.ListN.{get_or}
use Rattle.bins.specs.Cells.{Stored}
use Rattle.counts.proofs.sums.add.Given as goal

abbrev pub invariant-loop-s : goal.invariant-loop-s
invariant-loop-s l =
    Stored (λ s. get_or l.initial.table (l.to + s) 0 + get_or l.initial.table (l.from + s) 0) l.to 0 l.s l.initial.table l.table
