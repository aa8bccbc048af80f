-- `mending::mend_front` meets its contract: the rooms are never too short, the lines fit, and what is written for the front is what is written for the whole. Assumes nothing.
use mathlib.Core.Path.{sym}
use native.Mathlib.Omega.{arith}
use lib.Seq.{length-take-le}
use Rattle.text.proofs.Adding.{added_more}
use Rattle.deckmend.proofs.Whole.{mended-few, refused-whole, mended-whole}
use Rattle.deckmend.proofs.mending.mend_front.Goals as goal

pub slice_bounds-mend-end : goal.slice_bounds-mend-end
slice_bounds-mend-end c = sym (length-take-le _ _ c.requires.within.0)

pub put_changes-last-requires : goal.put_changes-last-requires
put_changes-last-requires c =
    let few = mended-few c.args.input.now c.args.filled c.args.rest c.mend-mending.ensures c.requires.within.0 (omega (arith, c.buffer-1.given)) c.requires.rooms.0 (omega arith) c.in-Mended.is in
    record { listed = omega (arith, few.0, c.mend-mending.auto); room = omega (arith, few.0, c.requires.rooms.1) }

pub overflow_add-cut : goal.overflow_add-cut
overflow_add-cut c =
    let few = mended-few c.args.input.now c.args.filled c.args.rest c.mend-mending.ensures c.requires.within.0 (omega (arith, c.buffer-1.given)) c.requires.rooms.0 (omega arith) c.in-Mended.is in
    omega (arith, few.1, c.requires.within.0, c.requires.within.1, c.buffer-1.given)

pub put_end-end-requires : goal.put_end-end-requires
put_end-end-requires c =
    let few = mended-few c.args.input.now c.args.filled c.args.rest c.mend-mending.ensures c.requires.within.0 (omega (arith, c.buffer-1.given)) c.requires.rooms.0 (omega arith) c.in-Mended.is in
    omega (arith, few.0, c.requires.rooms.1, c.put_changes-last.auto, c.put_changes-last.ensures.reach)

pub returns-in-Mended : goal.returns-in-Mended
returns-in-Mended c =
    mended-whole c.args.input.now c.args.filled c.args.rest c.mend-mending.ensures c.requires.within.0 (omega (arith, c.buffer-1.given)) c.requires.rooms.0 (omega arith) c.in-Mended.is
    (added_more c.put_changes-last.ensures.added c.put_end-end.ensures)

pub returns-in-Refused : goal.returns-in-Refused
returns-in-Refused c =
    refused-whole c.args.input.now c.args.filled c.args.rest c.mend-mending.ensures c.requires.within.0 (omega (arith, c.buffer-1.given)) c.requires.rooms.0 (omega arith) c.in-Refused.is
    c.put_refused_file-end.ensures
