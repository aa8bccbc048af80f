-- `best::put_group` meets its contract: the buffer so far has the lines of the group's places passed, and room for the rest.
-- Assumes nothing.
use native.Mathlib.Omega.{arith}
use Rattle.printing.proofs.Lined.{no_lines, one_more, all_lines}
use Rattle.spare_lines.proofs.Rounds.{member-fits}
use Rattle.spare_lines.proofs.best.put_group.Goals as goal

pub loop-i-init : goal.loop-i-init
loop-i-init c = no_lines _ _ _ _

pub offset_bounds-low-i : goal.offset_bounds-low-i
offset_bounds-low-i c = omega (arith, c.loop-i-test.true, c.requires.few.few)

pub bounds-low-i : goal.bounds-low-i
bounds-low-i c = omega (arith, c.loop-i-test.true, c.requires.few.few)

pub offset_bounds-high-i : goal.offset_bounds-high-i
offset_bounds-high-i c = omega (arith, c.loop-i-test.true, c.requires.few.few)

pub bounds-high-i : goal.bounds-high-i
bounds-high-i c = omega (arith, c.loop-i-test.true, c.requires.few.few)

pub bounds-alike-i : goal.bounds-alike-i
bounds-alike-i c = omega (arith, c.loop-i-test.true, c.requires.few.few)

pub overflow_add-shown : goal.overflow_add-shown
overflow_add-shown c = omega (arith, c.loop-i-test.true, c.requires.few.few)

pub put_place_if-end-requires : goal.put_place_if-end-requires
put_place_if-end-requires c =
    record {
      within = c.requires.within.after c.loop-i.i;
      room = λ named. member-fits c.args.shown c.args.rank c.args.group.count c.args.group.alike c.args.places.low c.args.places.high c.loop-i.invariant c.loop-i-test.true named c.requires.room;
    }

pub loop-i-preserved : goal.loop-i-preserved
loop-i-preserved c = one_more c.loop-i.invariant c.loop-i-test.true (omega (arith, c.put_place_if-end.auto)) c.put_place_if-end.ensures

pub shape_of-out : goal.shape_of-out
shape_of-out c = c.loop-i.invariant.same

pub returns : goal.returns
returns c = all_lines c.loop-i.invariant (omega (arith, c.loop-i-test.false))
