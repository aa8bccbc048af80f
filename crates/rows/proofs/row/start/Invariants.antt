-- `start` writes one sum more a turn. Assumes nothing.
use Rattle.units.specs.Step.{whole}
use Rattle.places.specs.Cells.{Written}
use Rattle.rows.specs.Level.{ends_value}
use Rattle.rows.proofs.row.start.Given as goal

abbrev pub invariant-loop-m : goal.invariant-loop-m
invariant-loop-m l = Written (ends_value (whole l.decimal) l.rule) l.m 0 l.initial.table l.table
