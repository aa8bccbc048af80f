-- `number::number2` meets its contract: two bytes, the higher one 256 times. Assumes nothing.
use Prim.Native.Nat.{◌<◌}
use native.Mathlib.Omega.{arith}
use Rattle.layout.proofs.Numbers.{number-two}
use Rattle.layout.proofs.number.number2.Goals as goal
use Rattle.layout.proofs.number.number2.Goals.{After-wide-high}

-- either byte is below 256
bytes_fit : (c : After-wide-high) → (c.wide-low.result < 256) × (c.wide-high.result < 256)
bytes_fit c =
    (rw c.wide-low.ensures (c.shared_slice_known-3-1.given _).fits, rw c.wide-high.ensures (c.shared_slice_known-3-1.given _).fits)

pub overflow_mul-result : goal.overflow_mul-result
overflow_mul-result c = omega (arith, bytes_fit ((goal.at.overflow_mul-result c).After-wide-high))

pub overflow_add-result : goal.overflow_add-result
overflow_add-result c = omega (arith, bytes_fit ((goal.at.overflow_add-result c).After-wide-high))

pub returns : goal.returns
returns c =
    omega (arith, number-two c.args.bytes.now c.args.at)
