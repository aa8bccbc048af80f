-- `put_three` meets its contract: each text fits behind the one before it. Assumes nothing.
use native.Mathlib.Omega.{arith}
use Rattle.text.proofs.Adding.{put-added, added_more}
use Rattle.saying.proofs.put_three.Goals as goal

pub returns : goal.returns
returns c =
    let one = put-added (omega (arith, c.requires)) c.put-first.ensures in
    let two = put-added (omega (arith, c.requires, c.put-first.auto, one.ends)) c.put-second.ensures in
    let three = put-added (omega (arith, c.requires, c.put-first.auto, c.put-second.auto, one.ends, two.ends)) c.put.ensures in
    added_more (added_more one two) three
