-- `lay` writes the entries 0 to n, and nothing else. Assumes nothing.
use Rattle.bins.specs.Cells.{Stored}
use Rattle.counts.specs.Tally.{entry_at}
use Rattle.counts.proofs.lay.lay.Given as goal

abbrev pub invariant-loop-j : goal.invariant-loop-j
invariant-loop-j l = Stored (entry_at l.rule l.n l.table) 0 0 l.j l.initial.room l.room
