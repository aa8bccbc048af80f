-- `decide` writes the unit as long as the lead and all that is left stay below k. Assumes nothing.
use Rattle.units.specs.Step.{whole}
use Rattle.places.specs.Cells.{Written}
use Rattle.runs.proofs.decide.Given as goal

abbrev pub invariant-loop-left : goal.invariant-loop-left
invariant-loop-left l = Written (λ up i. whole l.decimal) l.left 0 l.initial.table l.table
