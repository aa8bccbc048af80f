-- `put_gains` meets its contract: the buffer so far has the lines of the places passed, and room for the rest. Assumes nothing.
use Prim.Native.Nat.{◌+◌}
use native.Mathlib.Omega.{arith}
use Rattle.rules.specs.Refusal.{most}
use Rattle.printing.proofs.Lined.{no_lines, room-left, one_more, all_lines}
use Rattle.spare_lines.specs.Lines.{gain_room}
use Rattle.spare_lines.proofs.Lengths.{gain-short}
use Rattle.spare_lines.proofs.put_gains.Goals as goal

pub loop-i-init : goal.loop-i-init
loop-i-init c = no_lines _ _ _ _

pub offset_bounds-low-i : goal.offset_bounds-low-i
offset_bounds-low-i c = omega (arith, c.loop-i-test.true, c.requires.few.few)

pub bounds-low-i : goal.bounds-low-i
bounds-low-i c = omega (arith, c.loop-i-test.true, c.requires.few.few, c.requires.few.long)

pub offset_bounds-high-i : goal.offset_bounds-high-i
offset_bounds-high-i c = omega (arith, c.loop-i-test.true, c.requires.few.few)

pub bounds-high-i : goal.bounds-high-i
bounds-high-i c = omega (arith, c.loop-i-test.true, c.requires.few.few, c.requires.few.long)

pub overflow_add-a : goal.overflow_add-a
overflow_add-a c = omega (arith, c.loop-i-test.true, c.requires.few.few)

pub put_gain-end-requires : goal.put_gain-end-requires
put_gain-end-requires c =
    let after = c.requires.within.after c.loop-i.i in
    let now = c.requires.within.now in
    record {
      within = (after.0, after.1, now.0, now.1);
      room = room-left c.loop-i.invariant gain_room most (λ j. gain-short c.args.s (c.args.a + j) _ c.args.before) c.loop-i-test.true c.requires.few.few.0 (omega (arith, c.requires.room));
    }

pub loop-i-preserved : goal.loop-i-preserved
loop-i-preserved c = one_more c.loop-i.invariant c.loop-i-test.true (omega (arith, c.put_gain-end.auto)) c.put_gain-end.ensures

pub shape_of-out : goal.shape_of-out
shape_of-out c = c.loop-i.invariant.same

pub returns : goal.returns
returns c = all_lines c.loop-i.invariant (omega (arith, c.loop-i-test.false))
