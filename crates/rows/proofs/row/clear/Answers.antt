-- `clear` writes one place more a turn. Assumes nothing.
use mathlib.Core.Path.{refl}
use native.Mathlib.Omega.{arith}
use Rattle.places.proofs.Cells.{written-more}
use Rattle.rows.proofs.row.clear.Goals as goal

pub loop-k-preserved : goal.loop-k-preserved
loop-k-preserved c = written-more c.write.ensures refl (omega arith) c.end_value.ensures c.loop-k.invariant
