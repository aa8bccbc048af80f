-- `round_up` is the rounded step of the mix. Assumes nothing.
use native.Mathlib.Omega.{arith}
use Rattle.rules.specs.Figure.{rounded}
use Rattle.units.proofs.round_up.Goals as goal

pub overflow_sub-unit : goal.overflow_sub-unit
overflow_sub-unit c = omega (arith, c.requires.unit.some)

pub overflow_add-mix : goal.overflow_add-mix
overflow_add-mix c = omega (arith, c.mix.ensures.fits, c.requires.unit.most)

pub over-requires : goal.over-requires
over-requires c = c.requires.unit.some

pub returns : goal.returns
unfolding rounded
returns c = rw (c.over.ensures, c.mix.ensures.mixed)
