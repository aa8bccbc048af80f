-- `best::group_of` meets its contract: the places passed are sorted. Assumes nothing.
use Rattle.spare_lines.proofs.Grouping.{Passed}
use Rattle.spare_lines.proofs.best.group_of.Given as goal

abbrev pub invariant-loop-i : goal.invariant-loop-i
invariant-loop-i l = Passed l.left l.high l.top l.before.high l.i l.rest l.alike l.count
