-- `back` takes a debt back a component at a time. Assumes nothing.
use Rattle.units.specs.Step.{whole}
use Rattle.gaps.proofs.Paying.{Back}
use Rattle.gaps.proofs.owed.back.Given as goal

abbrev pub invariant-loop-i : goal.invariant-loop-i
invariant-loop-i l = Back (whole l.decimal) l.r l.initial.hand.clean l.initial.hand.owed l.from l.survival l.i l.hand l.ends
