-- `fill` decides as far as it can, then goes on a run at a time. Assumes nothing.
use Rattle.units.specs.Step.{whole}
use Rattle.runs.specs.Runs.{Filled}
use Rattle.runs.proofs.fill.Given as goal

abbrev pub invariant-loop-left : goal.invariant-loop-left
invariant-loop-left l = Filled (whole l.decimal) l.k l.free l.left l.survival l.initial.table l.table
