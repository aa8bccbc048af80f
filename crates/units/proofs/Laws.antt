-- Either unit of a file is one of the step's, from 1 to 2^30, and so the two products of a step are each within a part of 2^30. Assumes nothing.
use Prim.Native.Nat.{ℕ, ◌*◌, ◌≤◌, ◌<◌}
use native.Mathlib.Omega.{arith}
use native.Mathlib.Nat.{mul-le-mul_left, le_trans}
use mathlib.Core.Bool.{Bool, true, false}
use Rattle.rules.specs.State.{S}
use Rattle.units.specs.Step.{AnyUnit, Parts, whole}

pub whole-some : (isDecimal : Bool) → 0 < whole isDecimal
unfolding whole
whole-some true = omega arith
whole-some false = omega arith

pub whole-most : (isDecimal : Bool) → whole isDecimal ≤ S
unfolding whole
whole-most true = omega arith
whole-most false = omega arith

pub whole-any : (isDecimal : Bool) → AnyUnit (whole isDecimal)
whole-any isDecimal = record { some = omega (arith, whole-some isDecimal); most = whole-most isDecimal }

pub left_le : {u p q a b : ℕ} → Parts u p q a b → p * a ≤ p * S
left_le {p = p} h = mul-le-mul_left p (le_trans h.left h.unit.most)

pub right_le : {u p q a b : ℕ} → Parts u p q a b → q * b ≤ q * S
right_le {q = q} h = mul-le-mul_left q (le_trans h.right h.unit.most)
