-- The exact sum of any test of words splits at the top component into what follows where it works and what follows where it fails. A reading looks at nothing
-- above the components it reads; so its exact sum, and the number of its working words with j ones, split likewise, for any memory. Assumes nothing.
use mathlib.Core.Path.{◌≡◌, refl, ap, ap₂, ◌∙◌}
use mathlib.Core.Bool.{Bool, true, false, cond}
use Prim.Native.Nat.{ℕ, zero, suc, ◌+◌, ◌*◌, ◌^◌, ◌<◌}
use native.Mathlib.Omega.{arith}
use Rattle.rules.specs.Below.{sum_below}
use Rattle.rules.specs.State.{failure}
use Rattle.rules.specs.Count.{count_if}
use Rattle.rules.specs.Memory.{Machine, run}
use Rattle.rules.specs.Figure.{product, exact_if}
use Rattle.rules.proofs.Sums.{sum-split, sum_same, held_same}
use Rattle.rules.proofs.Bits.{down-low, down-high, shift, bit-above}
use Rattle.rules.proofs.Words as words

pub run-above : {M : Type 0} (K : Machine M) (i a : ℕ) (m : M) (w : ℕ) → run K i m (a * 2 ^ i + w) ≡ run K i m w
unfolding run
run-above K zero a m w = refl
run-above K (suc i) a m w = rw (bit-above a i w, shift a i) (run-above K i (a * 2) _ w)

pub product-above : (u : ℕ) (P : ℕ → ℕ) (i a w : ℕ) → product u P i (a * 2 ^ i + w) ≡ product u P i w
unfolding product
product-above u P zero a w = refl
product-above u P (suc i) a w = rw (bit-above a i w, shift a i, product-above u P i (a * 2) w)

pub cond-mul : (b : Bool) (c x : ℕ) → cond b (c * x) 0 ≡ c * cond b x 0
cond-mul true c x = refl
cond-mul false c x = omega arith

-- any test of words
pub exact-halves : (p : ℕ → Bool) (u : ℕ) (P : ℕ → ℕ) (i : ℕ)
    → exact_if p u P (suc i) ≡ P (suc i) * exact_if p u P i + failure u (P (suc i)) * exact_if (λ w. p (1 * 2 ^ i + w)) u P i
unfolding exact_if product
exact-halves p u P i = sum-split i (P (suc i)) (failure u (P (suc i))) _ _ _
    (λ w h. rw (down-low i w h, cond-mul))
    (λ w h. rw (down-high i w h, product-above u P i 1 w, cond-mul))

-- a verdict that agrees with another on every word below 2^n has the same exact sum and the same counts
pub exact_same : (p q : ℕ → Bool) (u : ℕ) (P : ℕ → ℕ) (n : ℕ) → ((w : ℕ) → w < 2 ^ n → p w ≡ q w) → exact_if p u P n ≡ exact_if q u P n
unfolding exact_if
exact_same p q u P n h = sum_same (2 ^ n) _ _ (λ w l. rw (h w l))

pub count_same : (p q : ℕ → Bool) (n j : ℕ) → ((w : ℕ) → w < 2 ^ n → p w ≡ q w) → count_if p n j ≡ count_if q n j
unfolding count_if
count_same p q n j h = held_same _ _ (2 ^ n) (λ w l. rw (h w l))

-- and numbers that agree with others up to n
pub product-same : (u : ℕ) (P P' : ℕ → ℕ) (n w : ℕ) → ((i : ℕ) → i < n → P (suc i) ≡ P' (suc i)) → product u P n w ≡ product u P' n w
unfolding product
product-same u P P' zero w h = refl
product-same u P P' (suc n) w h = rw (h n (omega arith), product-same u P P' n w (λ i l. h i (omega arith)))

pub exact-numbers : (p : ℕ → Bool) (u : ℕ) (P P' : ℕ → ℕ) (n : ℕ) → ((i : ℕ) → i < n → P (suc i) ≡ P' (suc i)) → exact_if p u P n ≡ exact_if p u P' n
unfolding exact_if
exact-numbers p u P P' n h = sum_same (2 ^ n) _ _ (λ w l. rw (product-same u P P' n w h))

-- a reading
pub exact-zero : {M : Type 0} (K : Machine M) (u : ℕ) (P : ℕ → ℕ) (m : M) → exact_if (run K 0 m) u P 0 ≡ cond (K.ends m) 1 0
unfolding exact_if run product sum_below
exact-zero K u P m = omega arith

module _ {M : Type 0} (K : Machine M) (i : ℕ) (m : M) where
  run-low : (w : ℕ) → w < 2 ^ i → run K (suc i) m w ≡ run K i (K.worked (suc i) m) w
  unfolding run
  run-low w h = rw (down-low i w h)

  run-high : (w : ℕ) → w < 2 ^ i → run K (suc i) m (1 * 2 ^ i + w) ≡ run K i (K.failed (suc i) m) w
  unfolding run
  run-high w h = rw (down-high i w h, run-above K i 1 _ w)

  pub count-zero : count_if (run K (suc i) m) (suc i) 0 ≡ count_if (run K i (K.worked (suc i) m)) i 0
  count-zero = words.count-zero (run K (suc i) m) i ∙ count_same _ _ i 0 run-low

  pub count-suc : (j : ℕ)
      → count_if (run K (suc i) m) (suc i) (suc j) ≡ count_if (run K i (K.worked (suc i) m)) i (suc j) + count_if (run K i (K.failed (suc i) m)) i j
  count-suc j =
      words.count-suc (run K (suc i) m) i j
      ∙ ap (λ x. x + count_if (λ w. run K (suc i) m (1 * 2 ^ i + w)) i j) (count_same _ _ i (suc j) run-low)
      ∙ ap (λ x. count_if (run K i (K.worked (suc i) m)) i (suc j) + x) (count_same _ _ i j run-high)

pub exact-split : {M : Type 0} (K : Machine M) (u : ℕ) (P : ℕ → ℕ) (i : ℕ) (m : M)
    → exact_if (run K (suc i) m) u P (suc i) ≡ P (suc i) * exact_if (run K i (K.worked (suc i) m)) u P i + failure u (P (suc i)) * exact_if (run K i (K.failed (suc i) m)) u P i
exact-split K u P i m =
    exact-halves _ u P i
    ∙ ap₂ (λ x y. P (suc i) * x + failure u (P (suc i)) * y) (exact_same _ _ u P i (run-low K i m)) (exact_same _ _ u P i (run-high K i m))
