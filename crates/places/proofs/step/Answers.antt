-- `step` is the rounded step of each end. Assumes nothing.
use mathlib.Core.Bool.{true, false}
use Rattle.places.proofs.Steps.{steady-parts}
use Rattle.places.proofs.step.Goals as goal

pub round_down-requires : goal.round_down-requires
round_down-requires c = steady-parts c.args.decimal c.whole-unit.ensures c.requires false

pub round_up-requires : goal.round_up-requires
round_up-requires c = steady-parts c.args.decimal c.whole-unit.ensures c.requires true

pub returns : goal.returns
returns c =
    record { low = rw c.whole-unit.ensures at c.round_down.ensures; high = rw c.whole-unit.ensures at c.round_up.ensures }
