-- `back` takes a run back a component at a time. Assumes nothing.
use Rattle.units.specs.Step.{whole}
use Rattle.places.proofs.Values.{Chance}
use Rattle.runs.proofs.Falling.{back-first, back-steady, back_more}
use Rattle.runs.proofs.back.Goals as goal
use Rattle.runs.proofs.back.Goals.{After-read}

pub loop-i-init : goal.loop-i-init
loop-i-init c = rw c.saturating_sub-from.ensures (back-first c.requires c.end_value-ends.ensures)

-- the numbers of the component
chance : (c : After-read)
    → Chance (whole c.args.decimal) c.args.survival.now
    c.loop-i.i c.chance-p.result.0 c.failure.result.0
chance c = record { read = c.chance-p.ensures; rest = c.failure.ensures }

pub step-ends-requires : goal.step-ends-requires
step-ends-requires c =
    let known = rw c.place.ensures at c.read.ensures in
    rw c.at_hand.ensures (back-steady c.requires _ c.loop-i-test.true c.loop-i.invariant _ _ (chance ((goal.at.step-ends-requires c).After-read)) known)

pub loop-i-preserved : goal.loop-i-preserved
loop-i-preserved c =
    let known = rw c.place.ensures at c.read.ensures in
    back_more c.requires _ c.loop-i-test.true c.loop-i.invariant _ _ (chance ((goal.at.loop-i-preserved c).After-read)) known
    c.before-m.ensures (rw c.at_hand.ensures at c.step-ends.ensures)
