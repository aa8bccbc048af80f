-- `turn` adds to each row the row below, from the highest on. Assumes nothing.
use Rattle.counts.specs.Sums.{Turned}
use Rattle.counts.proofs.sums.turn.Given as goal

abbrev pub invariant-loop-j : goal.invariant-loop-j
invariant-loop-j l = Turned l.w l.count l.j l.rows l.initial.table l.table
