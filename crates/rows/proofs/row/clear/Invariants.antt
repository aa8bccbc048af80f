-- `clear` writes one place more a turn. Assumes nothing.
use Rattle.places.specs.Cells.{Written}
use Rattle.rows.proofs.row.clear.Given as goal

abbrev pub invariant-loop-k : goal.invariant-loop-k
invariant-loop-k l = Written (λ up k. 0) l.k l.off l.initial.table l.table
