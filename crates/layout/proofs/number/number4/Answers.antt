-- `number::number4` meets its contract: two halves of two bytes, the higher one 65,536 times. Assumes nothing.
use Prim.Native.Nat.{◌^◌, ◌<◌}
use native.Mathlib.Omega.{arith}
use Rattle.layout.proofs.Numbers.{number-four, spelled-fits}
use Rattle.layout.proofs.number.number4.Goals as goal
use Rattle.layout.proofs.number.number4.Goals.{After-number2-high}

-- either half is a number of two bytes
halves-fit : (c : After-number2-high) → (c.number2-low.result < 2 ^ 16) × (c.number2-high.result < 2 ^ 16)
halves-fit c =
    (spelled-fits 2 _ _ c.number2-low.ensures (λ i. (c.shared_slice_known-1.given i).fits), spelled-fits 2 _ _ c.number2-high.ensures (λ i. (c.shared_slice_known-1.given i).fits))

pub overflow_mul-result : goal.overflow_mul-result
overflow_mul-result c = omega (arith, halves-fit ((goal.at.overflow_mul-result c).After-number2-high))

pub overflow_add-result : goal.overflow_add-result
overflow_add-result c = omega (arith, halves-fit ((goal.at.overflow_add-result c).After-number2-high))

pub returns : goal.returns
returns c =
    omega (arith, number-four c.args.bytes.now c.args.at)
