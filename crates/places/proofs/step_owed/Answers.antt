-- `step_owed` is the rounded step of each end, with nothing where the component fails. Assumes nothing.
use mathlib.Core.Bool.{true, false}
use Rattle.places.proofs.Steps.{must-parts}
use Rattle.places.proofs.step_owed.Goals as goal

pub down-requires : goal.down-requires
down-requires c = must-parts c.args.decimal c.whole-unit.ensures c.requires false

pub up-requires : goal.up-requires
up-requires c = must-parts c.args.decimal c.whole-unit.ensures c.requires true

pub returns : goal.returns
returns c =
    record { low = rw c.whole-unit.ensures at c.down.ensures; high = rw c.whole-unit.ensures at c.up.ensures }
