-- `report::put_two` meets its contract: the numbers and the line's end fit. Assumes nothing.
use native.Mathlib.Omega.{arith}
use Rattle.text.proofs.Adding.{put-added, pair-reach, added_more}
use borrow.Author.Rules.{rules}
use Rattle.season_report.proofs.put_two.Goals as goal

pub put_pair-end-requires : goal.put_pair-end-requires
put_pair-end-requires c = search rules

pub put-requires : goal.put-requires
put-requires c =
    omega (arith, c.requires, c.put_pair-end.auto, pair-reach c.args.first.now _ c.args.second.now _ c.put_pair-end.ensures)

pub shape_of-out : goal.shape_of-out
shape_of-out c = search rules

pub returns : goal.returns
returns c =
    let far = pair-reach c.args.first.now _ c.args.second.now _ c.put_pair-end.ensures in
    added_more c.put_pair-end.ensures (put-added (omega (arith, c.requires, c.put_pair-end.auto, far)) c.put.ensures)
