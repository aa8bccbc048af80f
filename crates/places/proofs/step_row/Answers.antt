-- `step_row` is the rounded step of each end, with a row's numbers. Assumes nothing.
use mathlib.Core.Bool.{true, false}
use Rattle.places.proofs.Steps.{row-values}
use Rattle.places.proofs.step_row.Goals as goal

pub down-requires : goal.down-requires
down-requires c = row-values c.args.decimal c.whole-unit.ensures c.requires.0 c.requires.1 c.requires.2 false

pub up-requires : goal.up-requires
up-requires c = row-values c.args.decimal c.whole-unit.ensures c.requires.0 c.requires.1 c.requires.2 true

pub returns : goal.returns
returns c =
    record { low = rw c.whole-unit.ensures at c.down.ensures; high = rw c.whole-unit.ensures at c.up.ensures }
