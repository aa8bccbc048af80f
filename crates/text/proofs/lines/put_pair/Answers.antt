-- `lines::put_pair` meets its contract: the two named numbers fit. Assumes nothing.
use native.Mathlib.Omega.{arith}
use Rattle.text.proofs.Adding.{named-added, named-reach, added_more}
use Rattle.text.proofs.lines.put_pair.Goals as goal

pub returns : goal.returns
returns c =
    let one = named-added (omega (arith, c.requires)) c.put_named-middle.ensures in
    let reach = named-reach c.args.first.now c.args.a one in
    added_more one (named-added (omega (arith, c.requires, c.put_named-middle.auto, reach)) c.put_named.ensures)
