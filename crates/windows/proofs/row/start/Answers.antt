-- `start` writes one place more a turn. Assumes nothing.
use mathlib.Core.Path.{◌≡◌}
use native.Mathlib.Omega.{arith}
use Rattle.places.proofs.Cells.{written-more}
use Rattle.windows.proofs.row.start.Goals as goal

pub loop-m-preserved : goal.loop-m-preserved
loop-m-preserved c =
    let all = rw c.works-works.ensures at c.end_value.ensures in
    written-more c.write.ensures (omega arith) (omega arith) all c.loop-m.invariant

pub returns : goal.returns
returns c =
    let e : c.loop-m.m ≡ c.args.count = omega arith in
    rw e at c.loop-m.invariant
