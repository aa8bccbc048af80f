-- `lines::put_refused` meets its contract: the name, the number and the line's end fit. Assumes nothing.
use native.Mathlib.Omega.{arith}
use Rattle.text.specs.Decimal.{text}
use Rattle.text.proofs.Adding.{put-added, named-added, named-reach, added_more}
use Rattle.text.proofs.lines.put_refused.Goals as goal

pub returns : goal.returns
returns c =
    let one = named-added (omega (arith, c.requires)) c.put_named-end.ensures in
    let reach = named-reach (text " refused ") c.args.number one in
    added_more one (put-added (omega (arith, c.requires, c.put_named-end.auto, reach)) c.put.ensures)
