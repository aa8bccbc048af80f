-- `ring` takes the open lead back a component at a time. Assumes nothing.
use mathlib.Core.Path.{ap, ◌∙◌}
use native.Mathlib.Omega.{arith}
use borrow.Author.Tests.{le-ltb}
use Rattle.units.specs.Step.{whole}
use Rattle.places.proofs.Values.{Chance}
use Rattle.runs.proofs.Whole.{filled-as, leading-first, leading-last, leading-some, leading-small, leading-failed, leading-fillable, leading-steady, leading-more}
use Rattle.runs.proofs.ring.Goals as goal
use Rattle.runs.proofs.ring.Goals.{After-read}

pub loop-i-init : goal.loop-i-init
loop-i-init c y =
    leading-first y (rw (c.works.ensures ∙ le-ltb c.args.k c.args.k (omega arith)) at c.end_value-opened.ensures)

-- the numbers of the component
chance : (c : After-read)
    → Chance (whole c.args.decimal) c.args.survival.now
    c.loop-i.i c.chance-p.result.0 c.failure.result.0
chance c = record { read = c.chance-p.ensures; rest = c.failure.ensures }

pub before-m-requires : goal.before-m-requires
before-m-requires c =
    leading-some c.requires (c.loop-i.invariant c.requires) c.loop-i-test.true

pub fill-requires : goal.fill-requires
fill-requires c =
    rw c.worked-free.ensures (leading-fillable c.requires (c.loop-i.invariant c.requires) c.loop-i-test.true c.before-m.ensures)

pub failed-requires : goal.failed-requires
failed-requires c =
    leading-small c.requires (c.loop-i.invariant c.requires) c.loop-i-test.true c.before-m.ensures

pub at_hand-requires : goal.at_hand-requires
at_hand-requires c =
    ap (λ m. m.lead) (c.failed.ensures ∙ leading-failed c.requires (c.loop-i.invariant c.requires) c.loop-i-test.true c.before-m.ensures)

pub step-opened-requires : goal.step-opened-requires
step-opened-requires c =
    let filled = filled-as c.worked-free.ensures c.fill.ensures in
    let known = rw c.place.ensures at c.read.ensures in
    rw c.at_hand.ensures
    (leading-steady c.requires (c.loop-i.invariant c.requires) c.loop-i-test.true c.before-m.ensures filled _ _ (chance ((goal.at.step-opened-requires c).After-read)) known)

pub loop-i-preserved : goal.loop-i-preserved
loop-i-preserved c y =
    let filled = filled-as c.worked-free.ensures c.fill.ensures in
    let known = rw c.place.ensures at c.read.ensures in
    let stepped = rw c.at_hand.ensures at c.step-opened.ensures in
    leading-more y (c.loop-i.invariant y) c.loop-i-test.true c.before-m.ensures filled _ _ (chance ((goal.at.loop-i-preserved c).After-read)) known stepped

pub returns : goal.returns
returns c =
    record { figure = leading-last c.requires c.loop-i-test.false (c.loop-i.invariant c.requires); kept = (c.loop-i.invariant c.requires).kept }
