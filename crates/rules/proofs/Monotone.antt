-- A better component never lowers a rounded value, nor the exact sum, for any memory whose steps respect an order in which working is never worse
-- than failing. Assumes nothing.
use mathlib.Core.Path.{◌≡◌, refl, ap}
use mathlib.Core.Bool.{Bool, true, false, cond, le, false≢true}
use Prim.Native.Nat.{ℕ, zero, suc, ◌+◌, ◌*◌, ◌-◌, ◌≤◌, ◌<◌, zero-le}
use native.Mathlib.Omega.{arith}
use native.Mathlib.Nat.{mul-le-mul_left, add-le-add}
use Rattle.rules.specs.Memory.{Machine, run}
use Rattle.rules.specs.Figure.{value, mixed, exact_if}
use Rattle.rules.proofs.Split.{exact-zero, exact-split}
use Rattle.rules.proofs.Rounding.{round_up}

pub record Ordered {M : Type 0} (K : Machine M) (L : M → M → Type 0) : Type 0 where
  pub ends_up : {m m' : M} → L m m' → le (K.ends m) (K.ends m')
  pub worked_up : (i : ℕ) {m m' : M} → L m m' → L (K.worked i m) (K.worked i m')
  pub failed_up : (i : ℕ) {m m' : M} → L m m' → L (K.failed i m) (K.failed i m')
  pub lower : (i : ℕ) (m : M) → L (K.failed i m) (K.worked i m)

cond_up : (b c : Bool) (u : ℕ) → le b c → cond b u 0 ≤ cond c u 0
cond_up true true u h = omega arith
cond_up true false u h = absurd (false≢true (h refl))
cond_up false c u h = zero-le

-- the larger number on the larger value
pub mix-up : (u p p' a b a' b' : ℕ) → p' ≤ u → p ≤ p' → a ≤ a' → b ≤ b' → b' ≤ a' → mixed u p a b ≤ mixed u p' a' b'
mix-up u p p' a b a' b' t h x y z =
    let e : p' ≡ p + (p' - p) = omega arith in
    let f : u - p ≡ (u - p') + (p' - p) = omega arith in
    omega (
      arith,
      mul-le-mul_left p x,
      mul-le-mul_left (u - p) y,
      mul-le-mul_left (p' - p) z,
      ap (λ v. v * a') e,
      ap (λ v. v * b') f,
    )

module _ {M : Type 0} (K : Machine M) (L : M → M → Type 0) (O : Ordered K L) (up : Bool) (u : ℕ) (pos : 0 < u) where
  pub value-up : (n : ℕ) (P : ℕ → ℕ) (m m' : M) → L m m' → value K up u P n m ≤ value K up u P n m'
  unfolding value
  value-up zero P m m' r = cond_up _ _ u (O.ends_up r)
  value-up (suc i) P m m' r =
      round_up up u _ _ pos
      (add-le-add (mul-le-mul_left _ (value-up i P _ _ (O.worked_up (suc i) r))) (mul-le-mul_left _ (value-up i P _ _ (O.failed_up (suc i) r))))

  pub value-raise : (n : ℕ) (P P' : ℕ → ℕ) → ((i : ℕ) → i ≤ n → P' i ≤ u) → ((i : ℕ) → i ≤ n → P i ≤ P' i) → (m : M)
      → value K up u P n m ≤ value K up u P' n m
  unfolding value
  value-raise zero P P' t h m = omega arith
  value-raise (suc i) P P' t h m =
      let s : (j : ℕ) → j ≤ i → P' j ≤ u = λ j l. t j (omega arith) in
      let g : (j : ℕ) → j ≤ i → P j ≤ P' j = λ j l. h j (omega arith) in
      round_up up u _ _ pos
      (mix-up u (P (suc i)) (P' (suc i)) _ _ _ _ (t _ (omega arith)) (h _ (omega arith))
      (value-raise i P P' s g _) (value-raise i P P' s g _) (value-up i P' _ _ (O.lower (suc i) m)))

-- the same of the exact sum
module _ {M : Type 0} (K : Machine M) (L : M → M → Type 0) (O : Ordered K L) (u : ℕ) where
  pub exact-up : (n : ℕ) (P : ℕ → ℕ) (m m' : M) → L m m' → exact_if (run K n m) u P n ≤ exact_if (run K n m') u P n
  exact-up zero P m m' r = rw (exact-zero K u P m, exact-zero K u P m') (cond_up _ _ 1 (O.ends_up r))
  exact-up (suc i) P m m' r =
      rw (exact-split K u P i m, exact-split K u P i m')
      (add-le-add (mul-le-mul_left _ (exact-up i P _ _ (O.worked_up (suc i) r))) (mul-le-mul_left _ (exact-up i P _ _ (O.failed_up (suc i) r))))

  pub exact-raise : (n : ℕ) (P P' : ℕ → ℕ) → ((i : ℕ) → i ≤ n → P' i ≤ u) → ((i : ℕ) → i ≤ n → P i ≤ P' i) → (m : M)
      → exact_if (run K n m) u P n ≤ exact_if (run K n m) u P' n
  exact-raise zero P P' t h m = rw (exact-zero K u P m, exact-zero K u P' m) (omega arith)
  exact-raise (suc i) P P' t h m =
      let s : (j : ℕ) → j ≤ i → P' j ≤ u = λ j l. t j (omega arith) in
      let g : (j : ℕ) → j ≤ i → P j ≤ P' j = λ j l. h j (omega arith) in
      rw (exact-split K u P i m, exact-split K u P' i m)
      (mix-up u (P (suc i)) (P' (suc i)) _ _ _ _ (t _ (omega arith)) (h _ (omega arith))
      (exact-raise i P P' s g _) (exact-raise i P P' s g _) (exact-up i P' _ _ (O.lower (suc i) m)))
