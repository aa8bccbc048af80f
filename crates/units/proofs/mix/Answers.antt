-- `mix` fits 64 bits: both values are within the unit, and so are p and q together. Assumes nothing.
use native.Mathlib.Omega.{arith}
use Rattle.units.proofs.Laws.{left_le, right_le}
use Rattle.units.proofs.mix.Goals as goal

pub overflow_mul-result : goal.overflow_mul-result
overflow_mul-result c = omega (arith, left_le c.requires, c.requires.survival, c.requires.unit.most)

pub overflow_mul-result-2 : goal.overflow_mul-result-2
overflow_mul-result-2 c = omega (arith, right_le c.requires, c.requires.rest, c.requires.unit.most)

pub overflow_add-result : goal.overflow_add-result
overflow_add-result c =
    omega (arith, left_le c.requires, right_le c.requires, c.requires.survival, c.requires.rest, c.requires.unit.most)

pub returns : goal.returns
returns c =
    record { mixed = rw c.requires.rest; fits = omega (arith, left_le c.requires, right_le c.requires, c.requires.survival, c.requires.rest, c.requires.unit.most) }
