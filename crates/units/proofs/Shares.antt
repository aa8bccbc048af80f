-- A value times a share is the product over the unit, for any unit from 1 to 2^30. A share is at most a part of 2^62 above its number, so that of two units
-- at the most it is above what it stands for by less than a part of the unit, and no whole number lies between. All is compared times the unit. Assumes nothing.
use Prim.Native.Nat.{ℕ, ◌+◌, ◌*◌, ◌-◌, ◌/◌, ◌≤◌, ◌<◌}
use mathlib.Core.Path.{◌≡◌, ap, sym, ◌∙◌}
use mathlib.Core.Bool.{false, false≢true}
use native.Mathlib.Omega.{arith}
use native.Mathlib.Nat.{mul-le-mul_left, mul-le-mul_right, le_of_mul-le-mul_right, lt_of_mul-lt-mul_right, div-mul-le_self, lt-div-mul-add}
use lib.Arith.{digits_div}
use Rattle.units.specs.Step.{AnyUnit}
use Rattle.units.specs.Share.{Dealt, Share, by_shares, share_parts}
use Rattle.units.specs.Odds.{round_up}

-- a quotient is what stands between
pub between : (x m q : ℕ) → q * m ≤ x → x < q * m + m → x / m ≡ q
between x m q a b = let e : x ≡ q * m + (x - q * m) = omega arith in ap (λ y. y / m) e ∙ digits_div q (omega arith)

between-times : (x m q u : ℕ) → 1 ≤ u → q * m * u ≤ x * u → x * u < (q * m + m) * u → x / m ≡ q
between-times x m q u some a b = between x m q (le_of_mul-le-mul_right a some) (lt_of_mul-lt-mul_right u b)

-- a share of d, which is above p of it by e of it
module _ (u p a d e : ℕ) (unit : AnyUnit u) (is : a * u ≡ p * share_parts + e) (near : e ≤ u) (few : d ≤ 2 * u) where
  times : a * d * u ≡ p * d * share_parts + e * d
  times = omega (arith, ap (λ x. x * d) is)

  little : e * d ≤ 2147483648 * u
  little = omega (arith, mul-le-mul_left e few, mul-le-mul_right u near, mul-le-mul_right u unit.most)

  down : (q : ℕ) → q * u ≤ p * d → p * d < q * u + u → a * d / share_parts ≡ q
  down q low high =
      between-times (a * d) share_parts q u unit.some (omega (arith, times, low)) (omega (arith, times, little, high, unit.most))

  up : (q : ℕ) → q * u ≤ p * d + (u - 1) → p * d + (u - 1) < q * u + u → (a * d + round_up) / share_parts ≡ q
  up q low high =
      between-times (a * d + round_up) share_parts q u unit.some (omega (arith, times, low, unit.some, unit.most))
      (omega (arith, times, little, high, unit.some))

module _ {u p a : ℕ} (unit : AnyUnit u) (h : Share u p a) where
  abbrev more : ℕ
  more = a * u - p * share_parts

  is : a * u ≡ p * share_parts + more
  is = omega (arith, h.above)

  near : more ≤ u
  near = omega (arith, h.near)

  pub share-down : (d : ℕ) → d ≤ 2 * u → a * d / share_parts ≡ p * d / u
  share-down d few =
      down u p a d more unit is near few (p * d / u) (div-mul-le_self (p * d) u) (lt-div-mul-add {a = p * d} {b = u} unit.some)

  pub share_up : (d : ℕ) → d ≤ 2 * u → (a * d + round_up) / share_parts ≡ (p * d + (u - 1)) / u
  share_up d few =
      let x = p * d + (u - 1) in
      up u p a d more unit is near few (x / u) (div-mul-le_self x u) (lt-div-mul-add {a = x} {b = u} unit.some)

  -- it is no more than all parts and one
  pub share-most : p ≤ u → a ≤ share_parts + 1
  share-most l =
      let within : a * u ≤ (share_parts + 1) * u = omega (arith, h.near) in
      le_of_mul-le-mul_right within unit.some

-- no share is asked for
pub unasked : {u x s : ℕ} → by_shares u ≡ false → Dealt u x s
unasked none = record { is = λ asked. absurd (false≢true (sym none ∙ asked)) }
