-- `fill` decides as far as it can, then goes on a run at a time. Assumes nothing.
use Rattle.runs.proofs.Falling.{filled-first, fillable-kept, filled_more}
use Rattle.runs.proofs.fill.Goals as goal

pub loop-left-init : goal.loop-left-init
loop-left-init c = rw c.decide-known.ensures.far (filled-first c.requires c.decide-known.ensures.written)

pub loop-left-preserved : goal.loop-left-preserved
loop-left-preserved c =
    filled_more (fillable-kept c.requires c.decide-known.ensures.written.kept) c.loop-left.invariant c.loop-left-test.true c.back-ends.ensures c.write.ensures
