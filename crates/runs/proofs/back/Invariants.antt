-- `back` takes a run back a component at a time. Assumes nothing.
use Rattle.units.specs.Step.{whole}
use Rattle.runs.proofs.Falling.{Back}
use Rattle.runs.proofs.back.Given as goal

abbrev pub invariant-loop-i : goal.invariant-loop-i
invariant-loop-i l = Back (whole l.decimal) l.k l.initial.hand.lead l.upto l.survival l.i l.hand l.ends
