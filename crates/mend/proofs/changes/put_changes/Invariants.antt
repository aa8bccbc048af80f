-- `changes::put_changes` meets its contract: a turn puts the change of one place more. Assumes nothing.
use Rattle.mend.proofs.Putting.{Putting}
use Rattle.mend.proofs.changes.put_changes.Given as goal

abbrev pub invariant-loop-i : goal.invariant-loop-i
invariant-loop-i l = Putting l.old l.new l.k l.initial.list l.list l.at l.i
