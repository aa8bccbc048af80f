-- Laws of sums and counts over the numbers below a bound: they add up, scale, and fall into the words with the top bit clear and set.
-- Assumes nothing.
use mathlib.Core.Path.{◌≡◌, refl, ap}
use mathlib.Core.Bool.{Bool, cond}
use Prim.Native.Nat.{ℕ, zero, suc, ◌+◌, ◌*◌, ◌^◌, ◌<◌}
use native.Mathlib.Nat.{add-zero, add-suc, one-mul}
use native.Mathlib.Omega.{arith}
use Rattle.rules.specs.Below.{sum_below, held}

pub sum-add : (a b : ℕ) (f : ℕ → ℕ) → sum_below (a + b) f ≡ sum_below a f + sum_below b (λ w. f (a + w))
unfolding sum_below
sum-add a zero f = rw add-zero (omega arith)
sum-add a (suc b) f = rw add-suc (omega (arith, sum-add a b f))

pub sum-scale : (k c : ℕ) (f g : ℕ → ℕ) → ((w : ℕ) → w < k → f w ≡ c * g w) → sum_below k f ≡ c * sum_below k g
unfolding sum_below
sum-scale zero c f g h = omega arith
sum-scale (suc k) c f g h = omega (arith, sum-scale k c f g (λ w l. h w (omega arith)), h k (omega arith))

pub sum_same : (k : ℕ) (f g : ℕ → ℕ) → ((w : ℕ) → w < k → f w ≡ g w) → sum_below k f ≡ sum_below k g
unfolding sum_below
sum_same zero f g h = refl
sum_same (suc k) f g h = rw (sum_same k f g (λ w l. h w (omega arith)), h k (omega arith))

-- the words of one more bit: those with the new bit clear, and those with it set
pub sum-split : (i c d : ℕ) (f g h : ℕ → ℕ) → ((w : ℕ) → w < 2 ^ i → f w ≡ c * g w) → ((w : ℕ) → w < 2 ^ i → f (1 * 2 ^ i + w) ≡ d * h w)
    → sum_below (2 ^ suc i) f ≡ c * sum_below (2 ^ i) g + d * sum_below (2 ^ i) h
sum-split i c d f g h low high =
    let e : 2 ^ suc i ≡ 1 * 2 ^ i + 2 ^ i = omega arith in
    rw e
    (omega (
      arith,
      sum-add (1 * 2 ^ i) (2 ^ i) f,
      ap (λ x. sum_below x f) (one-mul (2 ^ i)),
      sum-scale (2 ^ i) c f g low,
      sum-scale (2 ^ i) d (λ w. f (1 * 2 ^ i + w)) h high,
    ))

-- a count is a sum of ones
pub held-sum : (p : ℕ → Bool) (k : ℕ) → held p k ≡ sum_below k (λ d. cond (p d) 1 0)
unfolding held sum_below
held-sum p zero = refl
held-sum p (suc k) = rw (held-sum p k)

pub held_same : (p q : ℕ → Bool) (k : ℕ) → ((d : ℕ) → d < k → p d ≡ q d) → held p k ≡ held q k
unfolding held
held_same p q zero h = refl
held_same p q (suc k) h = rw (held_same p q k (λ d l. h d (omega arith)), h k (omega arith))
