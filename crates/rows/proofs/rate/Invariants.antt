-- `rate` makes the level with no components left and takes it up a component at a time; with all left, memory 0 has the figure. Assumes nothing.
use mathlib.Core.Path.{◌≡◌}
use Rattle.units.specs.Step.{whole}
use Rattle.places.specs.Cells.{Kept}
use Rattle.rows.specs.Level.{Levelled}
use Rattle.rows.proofs.rate.Given as goal

abbrev pub invariant-loop : goal.invariant-loop
invariant-loop l =
    (l.s.left ≡ l.counter) × Levelled (whole l.decimal) l.rule l.survival l.weights l.s l.table × Kept l.initial.table l.table
