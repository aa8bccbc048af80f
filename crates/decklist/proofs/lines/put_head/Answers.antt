-- `lines::put_head` meets its contract: the two numbers and the line's end fit. Assumes nothing.
use native.Mathlib.Omega.{arith}
use Rattle.text.specs.Decimal.{text}
use Rattle.text.proofs.Adding.{put-added, added_more, pair-reach}
use Rattle.decklist.proofs.lines.put_head.Goals as goal

pub put-requires : goal.put-requires
put-requires c =
    omega (arith, c.requires, c.put_pair-end.auto, pair-reach (text "deck ") c.args.n (text " systems ") c.args.m c.put_pair-end.ensures)

pub returns : goal.returns
returns c =
    let reach = pair-reach (text "deck ") c.args.n (text " systems ") c.args.m c.put_pair-end.ensures in
    added_more c.put_pair-end.ensures (put-added (omega (arith, c.requires, c.put_pair-end.auto, reach)) c.put.ensures)
