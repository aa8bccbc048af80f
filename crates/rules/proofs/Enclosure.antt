-- The rounding argument, once, over any memory, any unit and any survival numbers: the rounded values enclose the exact sum, lie at most n - 1
-- units apart, and stay within the unit. One part more keeps the third condition (`third-step`), by a step of `Rounding` each; so it holds by induction over the
-- components left, of which the first loses nothing. Assumes nothing.
use mathlib.Core.Path.{◌≡◌}
use mathlib.Core.Bool.{Bool, true, false, cond}
use Prim.Native.Nat.{ℕ, zero, suc, ◌+◌, ◌*◌, ◌^◌, ◌-◌, ◌≤◌, ◌<◌}
use native.Mathlib.Omega.{arith}
use native.Mathlib.Nat.{pow-suc, pow-zero, mul-le-mul_left, mul-le-mul_right, le_of_mul-le-mul_right}
use Rattle.rules.specs.State.{failure}
use Rattle.rules.specs.Memory.{Machine, run}
use Rattle.rules.specs.Figure.{rounded, mixed, value, exact_if, Third}
use Rattle.rules.proofs.Split.{exact-zero, exact-split}
use Rattle.rules.proofs.Rounding.{down_le, le_up, whole, step-gap, step-le}

cond-unit : (b : Bool) (u : ℕ) → cond b u 0 ≡ cond b 1 0 * u
cond-unit true u = omega arith
cond-unit false u = omega arith

-- one part more, whatever the figures are of: the three inequalities of the argument
pub third-step : (u k p l h e l' h' e' : ℕ) → 0 < u → 0 < k → p ≤ u → Third u k l h e → Third u k l' h' e'
    → Third u (suc k) (rounded false u (mixed u p l l')) (rounded true u (mixed u p h h')) (p * e + failure u p * e')
third-step u zero p l h e l' h' e' pos some s a b = absurd (omega arith)
third-step u (suc k) p l h e l' h' e' pos some s a b =
    let c : suc k - 1 ≡ k = omega arith in
    let d : suc (suc k) - 1 ≡ suc k = omega arith in
    let q = failure u p in
    record {
      above_low =
          rw (d, pow-suc u k)
          (omega (
            arith,
            mul-le-mul_left p (rw c at a.above_low),
            mul-le-mul_left q (rw c at b.above_low),
            mul-le-mul_right (u ^ k) (down_le u (mixed u p l l')),
          ));
      below_high =
          rw (d, pow-suc u k)
          (omega (
            arith,
            mul-le-mul_left p (rw c at a.below_high),
            mul-le-mul_left q (rw c at b.below_high),
            mul-le-mul_right (u ^ k) (le_up u (mixed u p h h') pos),
          ));
      width = omega (arith, step-gap u p k h h' l l' pos s (omega (arith, a.width)) (omega (arith, b.width)));
    }

module _ {M : Type 0} (K : Machine M) (u : ℕ) (P : ℕ → ℕ) (pos : 0 < u) where
  pub value-le : (up : Bool) (n : ℕ) → ((i : ℕ) → i ≤ n → P i ≤ u) → (m : M) → value K up u P n m ≤ u
  unfolding value
  value-le up zero s m = end-le (K.ends m)
    where
      end-le : (b : Bool) → cond b u 0 ≤ u
      end-le true = omega arith
      end-le false = omega arith
  value-le up (suc n) s m =
      let t : (i : ℕ) → i ≤ n → P i ≤ u = λ i l. s i (omega arith) in
      step-le up u (P (suc n)) _ _ pos (s _ (omega arith)) (value-le up n t _) (value-le up n t _)

  -- of one component nothing is lost
  enclosed-one : (m : M) → Third u 1 (value K false u P 1 m) (value K true u P 1 m) (exact_if (run K 1 m) u P 1)
  unfolding value
  enclosed-one m =
      let a = K.ends (K.worked 1 m) in
      let b = K.ends (K.failed 1 m) in
      let c = P 1 * cond a 1 0 + failure u (P 1) * cond b 1 0 in
      let mix : mixed u (P 1) (cond a u 0) (cond b u 0) ≡ c * u = rw (cond-unit a u, cond-unit b u) (omega arith) in
      let exact : exact_if (run K 1 m) u P 1 ≡ c = rw (exact-split K u P 0 m, exact-zero K u P (K.worked 1 m), exact-zero K u P (K.failed 1 m)) in
      rw (mix, whole true u c pos, whole false u c pos, exact)
      (record { above_low = rw (pow-zero u) (omega arith); below_high = rw (pow-zero u) (omega arith); width = omega arith })

  -- the third condition, of any memory
  pub enclosed : (n : ℕ) → 0 < n → ((i : ℕ) → i ≤ n → P i ≤ u) → (m : M) → Third u n (value K false u P n m) (value K true u P n m) (exact_if (run K n m) u P n)
  unfolding value
  enclosed zero h s m = absurd (omega arith)
  enclosed (suc zero) h s m = enclosed-one m
  enclosed (suc (suc n)) h s m =
      let t : (i : ℕ) → i ≤ suc n → P i ≤ u = λ i l. s i (omega arith) in
      rw (exact-split K u P (suc n) m)
      (third-step u (suc n) (P (suc (suc n))) _ _ _ _ _ _ pos (omega arith) (s _ (omega arith)) (enclosed (suc n) (omega arith) t _) (enclosed (suc n) (omega arith) t _))
