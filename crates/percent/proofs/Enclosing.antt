-- The percents that are printed of low and high enclose what low and high do, by the laws of the rounded step; so the exact sum lies between them
-- too. Assumes nothing.
use mathlib.Core.Bool.{true, false}
use Prim.Native.Nat.{ℕ, ◌+◌, ◌*◌, ◌-◌, ◌^◌, ◌≤◌, ◌<◌}
use native.Mathlib.Omega.{arith}
use native.Mathlib.Nat.{mul-le-mul_left, div-mul-le_self, lt-div-mul-add}
use Rattle.rules.specs.Figure.{rounded, Third}
use Rattle.rules.proofs.Rounding.{down_le, le_up}
use Rattle.percent.specs.Percent.{whole_percent, percent_of, Enclosed}

pub percents-enclose : (u : ℕ) → 0 < u → (low high : ℕ) → Enclosed u low high (percent_of u false low) (percent_of u true high)
unfolding rounded
percents-enclose u some low high = record {
  below_low = down_le u (low * whole_percent);
  near_low = omega (arith, lt-div-mul-add {a = low * whole_percent} some);
  above_high = le_up u (high * whole_percent) some;
  near_high = omega (arith, div-mul-le_self (high * whole_percent + (u - 1)) u);
}

-- q is the unit to the power n - 1
between : (u q l h low high E : ℕ) → Enclosed u low high l h → low * q ≤ E → E ≤ high * q → (l * u * q ≤ E * whole_percent) × (E * whole_percent ≤ h * u * q)
between u q l h low high E is below above = (
  omega (arith, mul-le-mul_left q is.below_low, mul-le-mul_left whole_percent below),
  omega (arith, mul-le-mul_left q is.above_high, mul-le-mul_left whole_percent above),
)

pub exact-between : (u : ℕ) → 0 < u → (n low high E : ℕ) → Third u n low high E
    → (percent_of u false low * u * u ^ (n - 1) ≤ E * whole_percent) × (E * whole_percent ≤ percent_of u true high * u * u ^ (n - 1))
exact-between u some n low high E third =
    between u (u ^ (n - 1)) _ _ low high E (percents-enclose u some low high) third.above_low third.below_high
