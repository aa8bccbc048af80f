-- A number is doubled at most 1,022 times before it reaches the unit: its last field would be 2^1022 times as much. Assumes nothing.
use mathlib.Core.Path.{◌≡◌, sym, ap, ◌∙◌}
use Prim.Native.Nat.{ℕ, zero, suc, ◌-◌, ◌*◌, ◌^◌, ◌≤◌, ◌<◌}
use native.Mathlib.Nat.{le_trans, mul-le-mul_right, mul-one, le_of_eq, pow-suc}
use native.Mathlib.Omega.{arith}
use lib.Dec.{lit≤}
use Rattle.rules.specs.State.{S}

-- one doubling: a power of two goes from the field to the number
pub doubled : (near field w : ℕ) → 0 < field → near * 2 ^ field ≡ w → near * 2 * 2 ^ (field - 1) ≡ w
doubled near zero w l e = absurd (omega arith)
doubled near (suc k) w l e = ap (λ (z : ℕ). near * 2 * 2 ^ z) (before k) ∙ regroup near (2 ^ k) ∙ ap (λ (z : ℕ). near * z) (sym (pow-suc 2 k)) ∙ e
  where
    before : (k : ℕ) → suc k - 1 ≡ k
    before k = omega arith

    regroup : (n p : ℕ) → n * 2 * p ≡ n * (p * 2)
    regroup n p = omega arith

-- below the unit there is a field left
pub left : (near field x : ℕ) → 0 < x → near < S → near * 2 ^ field ≡ x * 2 ^ 1022 → 0 < field
left near zero x p l e = absurd (impossible (le_trans (mul-le-mul_right (2 ^ 1022) p) (le_of_eq (sym e ∙ mul-one near))))
  where
    enough : S ≤ 1 * 2 ^ 1022
    enough = lit≤ tt

    impossible : 1 * 2 ^ 1022 ≤ near → ⊥
    impossible h = let k = le_trans enough h in omega (arith, k, l)
left near (suc k) x p l e = omega arith
