-- `mending::put_changes` meets its contract: the buffer so far has the lines of the changes passed, and room for the rest. Assumes nothing.
use mathlib.Core.Path.{◌≡◌}
use native.Mathlib.Omega.{arith}
use native.Mathlib.Numerals.{add-one}
use Rattle.text.proofs.Adding.{none-added, added_more}
use Rattle.deckmend.specs.Lines.{changes_text}
use Rattle.deckmend.proofs.Lengths.{changes-short}
use Rattle.deckmend.proofs.mending.put_changes.Goals as goal

pub loop-i-init : goal.loop-i-init
unfolding changes_text
loop-i-init c = none-added c.args.out.now 0

pub overflow_mul-at : goal.overflow_mul-at
overflow_mul-at c = omega (arith, c.requires.listed)

pub bounds-list-at : goal.bounds-list-at
bounds-list-at c =
    omega (arith, c.requires.listed)

pub overflow_add-at : goal.overflow_add-at
overflow_add-at c =
    omega (arith, c.requires.listed)

pub bounds-list-at-in-loop-i : goal.bounds-list-at-in-loop-i
bounds-list-at-in-loop-i c =
    omega (arith, c.requires.listed)

pub overflow_add-at-in-loop-i : goal.overflow_add-at-in-loop-i
overflow_add-at-in-loop-i c =
    omega (arith, c.requires.listed)

pub bounds-list-at-in-loop-i-2 : goal.bounds-list-at-in-loop-i-2
bounds-list-at-in-loop-i-2 c =
    omega (arith, c.requires.listed)

pub put_change-end-requires : goal.put_change-end-requires
put_change-end-requires c =
    omega (arith, c.requires.room, c.loop-i.auto, c.loop-i.invariant.ends, changes-short c.loop-i.i c.args.list.now)

pub loop-i-preserved : goal.loop-i-preserved
unfolding changes_text
loop-i-preserved c =
    rw add-one (added_more c.loop-i.invariant c.put_change-end.ensures)

pub returns : goal.returns
returns c =
    let e : c.loop-i.i ≡ c.args.changed = omega (arith, c.loop-i-test.false) in
    record { added = rw e at c.loop-i.invariant; reach = omega (arith, e, c.loop-i.invariant.ends, changes-short c.loop-i.i c.args.list.now) }
