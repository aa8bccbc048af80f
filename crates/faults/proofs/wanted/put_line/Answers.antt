-- `wanted::put_line` meets its contract: the part of the text that is put is the line. Assumes nothing.
use native.Mathlib.Omega.{arith}
use Rattle.text.proofs.Adding.{put-added}
use Rattle.faults.proofs.wanted.put_line.Goals as goal

pub returns : goal.returns
returns c =
    put-added (omega (arith, c.requires)) (rw c.line_at-span.ensures.line at c.put.ensures)
