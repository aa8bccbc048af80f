-- `Survival::failure` meets its contract: what is left of the unit is within it. Assumes nothing.
use native.Mathlib.Omega.{arith}
use Rattle.units.proofs.Laws.{whole-most}
use Rattle.units.proofs.Survival.failure.Goals as goal

pub narrow-requires : goal.narrow-requires
narrow-requires c = omega (arith, c.whole.ensures, whole-most c.args.decimal)
