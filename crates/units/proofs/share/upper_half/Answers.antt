-- `upper_half` fits 64 bits, and is what the digits' products carry. Assumes nothing.
use native.Mathlib.Omega.{arith}
use Rattle.units.proofs.Halves.{Products, products, halves}
use Rattle.units.proofs.share.upper_half.Goals as goal
use Rattle.units.proofs.share.upper_half.Goals.{Start}

small : (c : Start) → Products c.args.x c.args.y
small c = products c.args.x c.args.y (omega (arith, c.ranges.x)) (omega (arith, c.ranges.y))

pub overflow_mul-lower : goal.overflow_mul-lower
overflow_mul-lower c = omega (arith, (small ((goal.at.overflow_mul-lower c).Start)).left)

pub overflow_mul-lower-2 : goal.overflow_mul-lower-2
overflow_mul-lower-2 c = omega (arith, (small ((goal.at.overflow_mul-lower-2 c).Start)).none)

pub overflow_add-lower : goal.overflow_add-lower
overflow_add-lower c = omega (arith, (small ((goal.at.overflow_add-lower c).Start)).left, (small ((goal.at.overflow_add-lower c).Start)).none)

pub overflow_mul-middle : goal.overflow_mul-middle
overflow_mul-middle c = omega (arith, (small ((goal.at.overflow_mul-middle c).Start)).right)

pub overflow_add-middle : goal.overflow_add-middle
overflow_add-middle c = omega (arith, (small ((goal.at.overflow_add-middle c).Start)).right)

pub overflow_mul-result : goal.overflow_mul-result
overflow_mul-result c = omega (arith, (small ((goal.at.overflow_mul-result c).Start)).both)

pub overflow_add-result : goal.overflow_add-result
overflow_add-result c = omega (arith, small ((goal.at.overflow_add-result c).Start))

pub overflow_add-result-2 : goal.overflow_add-result-2
overflow_add-result-2 c = omega (arith, small ((goal.at.overflow_add-result-2 c).Start))

pub returns : goal.returns
returns c = halves c.args.x c.args.y
