-- A division in two goes is the division: what the first one leaves is shifted and goes on into the second. Assumes nothing.
use mathlib.Core.Path.{◌≡◌, sym, ap, ◌∙◌}
use mathlib.Core.Bool.{true, false}
use Prim.Native.Nat.{ℕ, ◌+◌, ◌*◌, ◌/◌, ◌%◌, ◌^◌, ◌<◌}
use native.Mathlib.Nat.{div-add-mod', mod-lt, lt_of_mul-lt-mul_right}
use native.Mathlib.Omega.{arith}
use lib.Arith.{digits_div}
use Rattle.rules.specs.Figure.{rounded}
use Rattle.doubles.proofs.Cutting.{step-up, stay}

-- 2^26
abbrev pub shift : ℕ
shift = 67108864

-- the whole number that the two divisions come to, and what is left
abbrev pub whole_of : (unit near : ℕ) → ℕ
whole_of unit near = near * shift / unit * shift + near * shift % unit * shift / unit

abbrev pub left_of : (unit near : ℕ) → ℕ
left_of unit near = near * shift % unit * shift % unit

module _ (unit near : ℕ) (some : 0 < unit) where
  abbrev all : ℕ
  all = near * 2 ^ 52

  pub shifted : all ≡ whole_of unit near * unit + left_of unit near
  shifted =
      let high = near * shift in
      let low = high % unit * shift in
      regroup near (high / unit) (high % unit) (low / unit) (low % unit) unit (div-add-mod' high unit) (div-add-mod' low unit)
    where
      regroup : (n q r t l u : ℕ) → q * u + r ≡ n * shift → t * u + l ≡ r * shift → n * 2 ^ 52 ≡ (q * shift + t) * u + l
      regroup n q r t l u h k = omega (arith, ap (λ (z : ℕ). z * shift) h, k)

  pub whole_is : whole_of unit near ≡ all / unit
  whole_is = sym (ap (λ (z : ℕ). z / unit) shifted ∙ digits_div (whole_of unit near) (mod-lt (near * shift % unit * shift) some))

  pub down : whole_of unit near ≡ rounded false unit all
  unfolding rounded
  down = whole_is

  pub up_more : 0 < left_of unit near → whole_of unit near + 1 ≡ rounded true unit all
  up_more l = step-up (whole_of unit near) unit all some whole_is (omega (arith, shifted))

  pub up_same : left_of unit near ≡ 0 → whole_of unit near ≡ rounded true unit all
  up_same l = stay (whole_of unit near) unit all some whole_is (omega (arith, shifted))

  pub whole-small : near < 2 * unit → whole_of unit near < 2 ^ 53
  whole-small l = lt_of_mul-lt-mul_right unit (under near (whole_of unit near) unit (left_of unit near) shifted l)
    where
      under : (n q u r : ℕ) → n * 2 ^ 52 ≡ q * u + r → n < 2 * u → q * u < 2 ^ 53 * u
      under n q u r e l = omega arith
