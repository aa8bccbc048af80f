-- `pack` meets its contract: each half stays below 2^32. Assumes nothing.
use native.Mathlib.Omega.{arith}
use Rattle.packing.proofs.pack.Goals as goal

pub overflow_mul-result : goal.overflow_mul-result
overflow_mul-result c = omega (arith, rw c.in-Range.is at c.requires)

pub overflow_add-result : goal.overflow_add-result
overflow_add-result c = omega (arith, rw c.in-Range.is at c.requires)

pub refused-requires : goal.refused-requires
refused-requires c = omega (arith, rw c.in-Refused.is at c.requires)

pub returns-in-Range : goal.returns-in-Range
returns-in-Range c = rw c.in-Range.is

pub returns-in-Refused : goal.returns-in-Refused
returns-in-Refused c = rw c.in-Refused.is c.refused.ensures
