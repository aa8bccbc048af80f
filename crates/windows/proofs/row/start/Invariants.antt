-- `start` writes one place more a turn. Assumes nothing.
use Rattle.units.specs.Step.{whole}
use Rattle.places.specs.Cells.{Written}
use Rattle.windows.proofs.row.start.Given as goal

abbrev pub invariant-loop-m : goal.invariant-loop-m
invariant-loop-m l = Written (λ up k. whole l.decimal) l.m 0 l.initial.table l.table
