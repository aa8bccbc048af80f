-- `is_decimal` meets its contract: every version but the first has the decimal unit. Assumes nothing.
use mathlib.Core.Path.{◌≡◌, refl}
use mathlib.Core.Bool.{Bool, true, false, not, cond}
use lib.Dec.{eqb}
use Rattle.rules.specs.State.{S, decimal, unit_of}
use Rattle.units.specs.Step.{whole}
use Rattle.units.proofs.is_decimal.Goals as goal

other : (b : Bool) → cond (not b) decimal S ≡ cond b S decimal
other true = refl
other false = refl

pub returns : goal.returns
unfolding whole unit_of
returns c = other (eqb c.args.version 1)
