-- `start` writes one sum more a turn. Assumes nothing.
use native.Mathlib.Omega.{arith}
use Rattle.places.proofs.Cells.{written-more}
use Rattle.rows.proofs.row.start.Goals as goal

pub loop-m-preserved : goal.loop-m-preserved
loop-m-preserved c =
    let ends = rw c.works-works.ensures at c.end_value.ensures in
    written-more c.write.ensures (omega arith) (omega arith) ends c.loop-m.invariant
