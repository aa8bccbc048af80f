-- `ring` takes the open lead back a component at a time. Assumes nothing.
use Rattle.units.specs.Step.{whole}
use Rattle.runs.specs.Runs.{Asked}
use Rattle.runs.proofs.Whole.{Leading}
use Rattle.runs.proofs.ring.Given as goal

abbrev pub invariant-loop-i : goal.invariant-loop-i
invariant-loop-i l = (y : Asked (whole l.decimal) l.k l.survival l.initial.table) → Leading y l.n l.i l.hand l.opened l.table
