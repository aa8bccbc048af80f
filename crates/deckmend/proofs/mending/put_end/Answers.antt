-- `mending::put_end` meets its contract: the number and the line's end fit. Assumes nothing.
use native.Mathlib.Omega.{arith}
use Rattle.text.proofs.Adding.{put-added, named-added, named-reach, added_more}
use Rattle.deckmend.proofs.mending.put_end.Goals as goal

pub returns : goal.returns
returns c =
    let one = named-added (omega (arith, c.requires)) c.put_named-end.ensures in
    let reach = named-reach c.args.name.now c.args.n one in
    added_more one (put-added (omega (arith, c.requires, c.put_named-end.auto, reach)) c.put.ensures)
