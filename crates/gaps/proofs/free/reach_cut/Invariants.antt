-- `reach_cut` goes on while debts are cut short. Assumes nothing.
use Rattle.units.specs.Step.{whole}
use Rattle.gaps.proofs.Reaching.{Stands}
use Rattle.gaps.proofs.free.reach_cut.Given as goal

abbrev pub invariant-loop-left : goal.invariant-loop-left
invariant-loop-left l = Stands (whole l.decimal) l.r l.free.clean l.left l.survival l.hand l.initial.table l.table
