-- `prepare` writes the shares of one component more a turn, or none where none are asked for. Assumes nothing.
use Rattle.gaps.proofs.Sharing.{SharedTo}
use Rattle.gaps.proofs.owed.prepare.Given as goal

abbrev pub invariant-loop-i : goal.invariant-loop-i
invariant-loop-i l = SharedTo l.unit l.i l.survival l.initial.table l.table
