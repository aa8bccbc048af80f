-- `put_spot` meets its contract: the number, what stands between and the word fit. Assumes nothing.
use native.Mathlib.Omega.{arith}
use Rattle.text.specs.Decimal.{text}
use Rattle.text.proofs.Adding.{put-added, named-added, named-reach, added_more}
use Rattle.faults.proofs.put_spot.Goals as goal

pub put_shown-requires : goal.put_shown-requires
put_shown-requires c =
    let one = named-added (omega (arith, c.requires)) c.put_named-number.ensures in
    let reach = named-reach (text "line ") c.args.line one in
    let two = put-added (omega (arith, c.requires, c.put_named-number.auto, reach)) c.put-end.ensures in
    omega (arith, c.requires, c.put_named-number.auto, reach, c.put-end.auto, two.ends)

pub returns : goal.returns
returns c =
    let one = named-added (omega (arith, c.requires)) c.put_named-number.ensures in
    let reach = named-reach (text "line ") c.args.line one in
    added_more (added_more one (put-added (omega (arith, c.requires, c.put_named-number.auto, reach)) c.put-end.ensures)) c.put_shown.ensures
