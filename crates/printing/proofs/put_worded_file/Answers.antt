-- `put_worded_file` meets its contract: the word, and the line of the refusal behind it. Assumes nothing.
use native.Mathlib.Omega.{arith}
use Rattle.text.proofs.Adding.{put-added, added_more}
use Rattle.printing.proofs.put_worded_file.Goals as goal

pub put_worded-requires : goal.put_worded-requires
put_worded-requires c =
    let one = put-added (omega (arith, c.requires)) c.put-end.ensures in
    omega (arith, c.requires, c.put-end.auto, one.ends)

pub returns : goal.returns
returns c =
    let one = put-added (omega (arith, c.requires)) c.put-end.ensures in
    added_more one (rw c.file_why-why.ensures at c.put_worded.ensures)
