-- `put_fan` meets its contract: the number, the weight, the board and the line's end fit. Assumes nothing.
use native.Mathlib.Omega.{arith}
use Rattle.text.specs.Decimal.{text}
use Rattle.text.proofs.Adding.{put-added, named-added, named-reach, added_more}
use Rattle.wording.specs.Lines.{fan_text}
use Rattle.wording.proofs.Lengths.{some-short}
use Rattle.wording.proofs.put_fan.Goals as goal

pub put_some-weighed-requires : goal.put_some-weighed-requires
put_some-weighed-requires c =
    let one = named-added (omega (arith, c.requires)) c.put_named-number.ensures in
    omega (arith, c.requires, c.put_named-number.auto, named-reach (text "fan ") c.args.parts one)

pub put_some-end-requires : goal.put_some-end-requires
put_some-end-requires c =
    let one = named-added (omega (arith, c.requires)) c.put_named-number.ensures in
    let reach = named-reach (text "fan ") c.args.parts one in
    omega (arith, c.requires, c.put_named-number.auto, reach, c.put_some-weighed.auto, c.put_some-weighed.ensures.ends, some-short (text " weight ") c.args.weight)

pub put-requires : goal.put-requires
put-requires c =
    let one = named-added (omega (arith, c.requires)) c.put_named-number.ensures in
    let reach = named-reach (text "fan ") c.args.parts one in
    let weighs = some-short (text " weight ") c.args.weight in
    let stands = some-short (text " on ") c.args.board in
    omega (arith, c.requires, c.put_named-number.auto, reach, c.put_some-weighed.auto, c.put_some-weighed.ensures.ends, c.put_some-end.auto, c.put_some-end.ensures.ends)

pub returns : goal.returns
unfolding fan_text
returns c =
    let one = named-added (omega (arith, c.requires)) c.put_named-number.ensures in
    let reach = named-reach (text "fan ") c.args.parts one in
    let weighs = some-short (text " weight ") c.args.weight in
    let stands = some-short (text " on ") c.args.board in
    added_more (added_more (added_more one c.put_some-weighed.ensures) c.put_some-end.ensures)
    (put-added (omega (arith, c.requires, c.put_named-number.auto, reach, c.put_some-weighed.auto, c.put_some-weighed.ensures.ends, c.put_some-end.auto, c.put_some-end.ensures.ends))
    c.put.ensures)
