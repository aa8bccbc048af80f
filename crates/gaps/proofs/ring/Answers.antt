-- `ring` takes the clean ones back a component at a time. Assumes nothing.
use mathlib.Core.Path.{ap, ◌∙◌}
use Rattle.places.proofs.Cells.{kept_trans}
use Rattle.gaps.proofs.Whole.{start-begun, reached-as, closed_is, hand_first, hand-next, closing-first, closing-last, closing-closable, closing-more}
use Rattle.gaps.proofs.ring.Goals as goal

pub begin-known-requires : goal.begin-known-requires
begin-known-requires c = start-begun c.requires c.start.ensures c.settle.ensures.settled c.settle.ensures.kept

pub loop-i-init : goal.loop-i-init
loop-i-init c =
    let reached = reached-as (ap (λ m. m.clean) c.start.ensures) c.begin-known.ensures in
    (c.after-hand.ensures ∙ hand_first c.args.r _, closing-first reached c.works.ensures c.end_value-ends.ensures)

pub close-ends-requires : goal.close-ends-requires
close-ends-requires c =
    let debt = closed_is c.args.r c.args.survival.now c.loop-i.i c.after-clean.ensures c.failed-m.ensures in
    rw c.at_hand-works.ensures (closing-closable c.loop-i.invariant.1 c.loop-i-test.true debt c.bring-known.ensures)

pub loop-i-preserved : goal.loop-i-preserved
loop-i-preserved c =
    let debt = closed_is c.args.r c.args.survival.now c.loop-i.i c.after-clean.ensures c.failed-m.ensures in
    let more = closing-more c.loop-i.invariant.1 c.loop-i-test.true debt c.bring-known.ensures (rw c.at_hand-works.ensures at c.close-ends.ensures) in
    (c.after-clean.ensures ∙ hand-next c.args.r _ c.loop-i.i, more)

pub returns : goal.returns
returns c = record {
  figure = closing-last c.loop-i-test.false c.loop-i.invariant.1;
  kept = kept_trans (kept_trans c.settle.ensures.kept c.begin-known.ensures.kept) c.loop-i.invariant.1.reached.kept;
}
