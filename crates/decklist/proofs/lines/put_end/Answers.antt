-- `lines::put_end` meets its contract: the percents and the line's end fit. Assumes nothing.
use native.Mathlib.Omega.{arith}
use Rattle.text.proofs.Adding.{put-added, added_more}
use Rattle.units.specs.Step.{whole}
use Rattle.percent.proofs.Digits.{range-short}
use Rattle.decklist.proofs.lines.put_end.Goals as goal

pub returns-then-not-percent : goal.returns-then-not-percent
returns-then-not-percent c =
    let unasked = c.if-not-percent.true in
    rw unasked (put-added (omega (arith, c.requires.room)) c.put.ensures)

pub put-requires-2 : goal.put-requires-2
put-requires-2 c =
    omega (arith, c.requires.room, c.put_range-end.auto, c.put_range-end.ensures.ends, range-short (whole c.args.decimal) c.args.low c.args.high)

pub returns : goal.returns
returns c =
    let room = range-short (whole c.args.decimal) c.args.low c.args.high in
    let asked = c.if-not-percent.false in
    rw asked
    (added_more c.put_range-end.ensures (put-added (omega (arith, c.requires.room, c.put_range-end.auto, c.put_range-end.ensures.ends, room)) c.put-2.ensures))
