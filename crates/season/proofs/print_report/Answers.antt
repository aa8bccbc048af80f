-- `print_report` meets its contract: the status goes by what the report tells of the bytes that are held. Assumes nothing.
use mir.Facts.{to_z-of_z}
use mir.Syntax.{w32}
use borrow.Author.Rules.{sfits_of}
use Rattle.season.proofs.print_report.Goals as goal

pub returns : goal.returns
returns c =
    let same = to_z-of_z {w = w32} {z = c.print.result} (sfits_of c.print.type_inv) in
    record { ends_by = λ bytes h. rw (same, ← (c.put_report-report.ensures.refused bytes h)) c.print.ensures.or_failed; status = rw same c.print.ensures.status }
