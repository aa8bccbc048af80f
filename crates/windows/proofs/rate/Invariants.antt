-- `rate` raises the first level one component a turn and reads the start. Assumes nothing.
use mathlib.Core.Path.{◌≡◌}
use Rattle.rules.specs.Pairs.{pairs_of}
use Rattle.units.specs.Step.{whole}
use Rattle.places.specs.Cells.{Kept}
use Rattle.windows.specs.Row.{Levelled}
use Rattle.windows.proofs.rate.Given as goal

abbrev pub invariant-loop : goal.invariant-loop
invariant-loop l = Levelled (whole l.decimal) (pairs_of l.first l.second l.more) l.oldest l.survival l.s l.table × Kept l.initial.table l.table × (l.s.left ≡ l.counter)
