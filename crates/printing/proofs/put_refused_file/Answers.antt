-- `put_refused_file` meets its contract: the two texts fit. Assumes nothing.
use native.Mathlib.Omega.{arith}
use Rattle.text.proofs.Adding.{put-added, added_more}
use Rattle.printing.proofs.put_refused_file.Goals as goal

pub put_refused-requires : goal.put_refused-requires
put_refused-requires c =
    omega (arith, c.requires, c.put-end.auto, (put-added (omega (arith, c.requires)) c.put-end.ensures).ends)

pub returns : goal.returns
returns c =
    let file = put-added (omega (arith, c.requires)) c.put-end.ensures in
    added_more file c.put_refused.ensures
