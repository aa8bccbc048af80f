-- `lacks` counts the ones of the window, which are no more than it has components. Assumes nothing.
use mathlib.Core.Path.{ap}
use Prim.Native.Nat.{ℕ, ◌-◌, ◌/◌, ◌%◌, ◌^◌, ◌≤◌}
use native.Mathlib.Nat.{mod-lt}
use lib.Dec.{ltb}
use lib.Count.{ones, ones-le}
use lib.Bits.{bit_and}
use lib.Pow.{pow_pos}
use Rattle.memory.proofs.Patterns.{window-bits}
use Rattle.memory.proofs.pattern.Pattern.lacks.Goals as goal

-- the ones of a window
few : (x r : ℕ) → r ≤ 10 → ones (bit_and x (1023 / 2 ^ (10 - r))) ≤ r
few x r l = rw (window-bits x r l) (ones-le r (x % 2 ^ r) (mod-lt x (pow_pos r)))

pub overflow_sub-result : goal.overflow_sub-result
overflow_sub-result c = rw c.from.ensures (few c.args.self.bits c.args.p.r c.requires)

pub returns : goal.returns
returns c =
    rw c.from.ensures (ap (λ y. ltb (c.args.p.r - ones y) c.args.p.k) (window-bits c.args.self.bits c.args.p.r c.requires))
