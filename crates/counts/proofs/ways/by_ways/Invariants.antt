-- `by_ways` writes the entries 0 to n, and nothing else: each turn makes the row longer by one, from the one table lent to all of them.
-- Assumes nothing.
use Rattle.bins.specs.Cells.{Stored}
use Rattle.counts.specs.Ways.{entry_of}
use Rattle.counts.proofs.ways.by_ways.Given as goal

abbrev pub invariant-loop-j : goal.invariant-loop-j
invariant-loop-j l = Stored (entry_of l.rule l.n) 0 0 l.j l.initial.room l.room
