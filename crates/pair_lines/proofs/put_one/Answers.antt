-- `put_one` meets its contract. Assumes nothing.
use native.Mathlib.Omega.{arith}
use Rattle.text.specs.Decimal.{text}
use Rattle.text.proofs.Adding.{put-added, added_more, named-added, named-reach}
use Rattle.pair_lines.proofs.put_one.Goals as goal

pub put_named-named-requires : goal.put_named-named-requires
put_named-named-requires c = omega (arith, c.requires)

pub returns : goal.returns
returns c =
    let one = named-added (omega (arith, c.requires)) c.put_named-named.ensures in
    added_more one
    (put-added (omega (arith, c.requires, c.put_named-named.auto, named-reach (text "system ") c.args.s one)) c.put.ensures)
