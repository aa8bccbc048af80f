-- `wanted::line_at` meets its contract: byte by byte, what is left has the line. Assumes nothing.
use Rattle.faults.proofs.Lines.{Reached}
use Rattle.faults.proofs.wanted.line_at.Given as goal

abbrev pub invariant-loop-i : goal.invariant-loop-i
invariant-loop-i l = Reached l.table l.k l.line l.from l.i
