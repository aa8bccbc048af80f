-- `put_two` meets its contract: the two numbers and what stands behind them fit. Assumes nothing.
use native.Mathlib.Omega.{arith}
use Rattle.text.proofs.Adding.{put-added, pair-reach, added_more}
use Rattle.wording.proofs.put_two.Goals as goal

pub put-requires : goal.put-requires
put-requires c =
    omega (arith, c.requires, c.put_pair-end.auto, pair-reach c.args.before.now c.args.a c.args.between.now c.args.b c.put_pair-end.ensures)

pub returns : goal.returns
returns c =
    let reach = pair-reach c.args.before.now c.args.a c.args.between.now c.args.b c.put_pair-end.ensures in
    added_more c.put_pair-end.ensures (put-added (omega (arith, c.requires, c.put_pair-end.auto, reach)) c.put.ensures)
