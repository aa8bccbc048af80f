-- `telling::put_most` meets its contract: the number and what stands behind it fit. Assumes nothing.
use native.Mathlib.Omega.{arith}
use Rattle.text.proofs.Adding.{put-added, added_more, named-added, named-reach}
use Rattle.deckstate.proofs.telling.put_most.Goals as goal

pub returns : goal.returns
returns c =
    let one = named-added (omega (arith, c.requires)) c.put_named-end.ensures in
    let reach = named-reach c.args.before.now c.args.most one in
    added_more one (put-added (omega (arith, c.requires, c.put_named-end.auto, reach)) c.put.ensures)
