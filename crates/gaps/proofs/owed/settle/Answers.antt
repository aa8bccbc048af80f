-- `settle` has the shares made, then takes a debt back a component at a time and writes the value of each memory that it comes to. Assumes nothing.
use mathlib.Core.Path.{◌≡◌, refl}
use Prim.Native.Nat.{◌+◌, ◌-◌}
use native.Mathlib.Nat.{zero-add}
use native.Mathlib.Omega.{arith}
use Rattle.memory.specs.Owed.{owed}
use Rattle.places.specs.Map.{half}
use Rattle.gaps.specs.Gaps.{settled_value}
use Rattle.places.proofs.Cells.{kept-none, kept_trans, row-none, row_more, written-more, workable-kept}
use Rattle.units.specs.Step.{whole}
use Rattle.gaps.proofs.Sharing.{shared-put, shared-written}
use Rattle.gaps.proofs.Paying.{end-valued, back-first, back_last, back-due, back_more}
use Rattle.gaps.proofs.owed.settle.Goals as goal

pub loop-i-init : goal.loop-i-init
loop-i-init c =
    let value = end-valued (whole c.args.decimal) c.args.r c.args.survival.now (owed 0 0) (omega (arith, c.requires.two)) c.works.ensures c.end_value-ends.ensures in
    let row = row_more {f = settled_value (whole c.args.decimal) c.args.r c.args.survival.now} {off = half} c.write.ensures refl (omega arith) value row-none in
    (back-first value, record { row = row; other = λ up k l o. refl; kept = kept-none })

pub must_work-ends-requires : goal.must_work-ends-requires
must_work-ends-requires c =
    let kept = kept_trans c.prepare.ensures.kept (kept_trans c.write.ensures.kept c.loop-i.invariant.1.kept) in
    let made = shared-put c.write.ensures (omega arith) c.requires.list.size c.prepare.ensures.shared in
    let shared = shared-written c.loop-i.invariant.1 (omega arith) c.requires.list.size made in
    back-due c.loop-i.invariant.0 (omega arith) (omega arith) (workable-kept kept c.requires.list) shared

pub loop-i-preserved : goal.loop-i-preserved
loop-i-preserved c =
    let same : c.loop-i.i + 1 - 0 ≡ c.loop-i.i + 1 = omega arith in
    let more = back_more c.loop-i.invariant.0 c.before-hand.ensures c.must_work-ends.ensures in
    (more, written-more c.write-in-loop-i.ensures (omega arith) (omega arith) (rw (same, zero-add) at (back_last refl more)) c.loop-i.invariant.1)
