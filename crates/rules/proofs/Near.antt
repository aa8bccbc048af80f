-- Lists at most 1 apart: low of the one and high of the other are at most 2n - 1 units apart, for any memory. A number that is larger by 1 takes a value
-- up by 1 more than the values that it mixes, which with the width of one list, n - 1, is 2n - 1. By induction over the components left. Assumes nothing.
use mathlib.Core.Path.{◌≡◌, ap}
use mathlib.Core.Bool.{true, false}
use Prim.Native.Nat.{ℕ, zero, suc, ◌+◌, ◌*◌, ◌-◌, ◌≤◌, ◌<◌}
use native.Mathlib.Omega.{arith}
use native.Mathlib.Nat.{mul-le-mul_left, mul-le-mul_right, mul-add-div_right}
use Rattle.rules.specs.Memory.{Machine}
use Rattle.rules.specs.Figure.{rounded, mixed, value}
use Rattle.rules.proofs.Rounding.{round_up}
use Rattle.rules.proofs.Enclosure.{enclosed, value-le}

-- numbers at most 1 apart on values at most k apart
mix-near : (u p p' k l f l' f' : ℕ) → p' ≤ u → p ≤ p' → p' ≤ p + 1 → l' ≤ l + k → f' ≤ f + k → l' ≤ u → mixed u p' l' f' ≤ suc k * u + mixed u p l f
mix-near u p p' k l f l' f' t a b h g m =
    let e : p' ≡ p + (p' - p) = omega arith in
    let d : u - p ≡ (u - p') + (p' - p) = omega arith in
    let v : p + (u - p) ≡ u = omega arith in
    let d1 : p' - p ≤ 1 = omega arith in
    omega (
      arith,
      mul-le-mul_left p h,
      mul-le-mul_left (u - p) g,
      mul-le-mul_right l' d1,
      ap (λ x. x * l') e,
      ap (λ x. x * f') d,
      ap (λ x. x * k) v,
    )

-- whole units pass through a rounding down
down-add : (u k x : ℕ) → 0 < u → rounded false u (k * u + x) ≡ k + rounded false u x
unfolding rounded
down-add u k x pos = mul-add-div_right pos k x

module _ {M : Type 0} (K : Machine M) (u : ℕ) (pos : 0 < u) (P P' : ℕ → ℕ) where
  value-near : (n : ℕ) → ((i : ℕ) → i ≤ n → P' i ≤ u) → ((i : ℕ) → i ≤ n → P i ≤ P' i) → ((i : ℕ) → i ≤ n → P' i ≤ P i + 1) → (m : M)
      → value K false u P' n m ≤ value K false u P n m + n
  unfolding value
  value-near zero t a b m = omega arith
  value-near (suc n) t a b m =
      let t' : (i : ℕ) → i ≤ n → P' i ≤ u = λ i l. t i (omega arith) in
      let near : (m : M) → value K false u P' n m ≤ value K false u P n m + n = value-near n t' (λ i l. a i (omega arith)) (λ i l. b i (omega arith)) in
      let x = K.worked (suc n) m in
      let y = K.failed (suc n) m in
      omega (
        arith,
        round_up false u _ _ pos
            (mix-near u (P (suc n)) (P' (suc n)) n (value K false u P n x) (value K false u P n y) (value K false u P' n x) (value K false u P' n y)
            (t _ (omega arith)) (a _ (omega arith)) (b _ (omega arith)) (near x) (near y) (value-le K u P' pos false n t' x)),
        down-add u (suc n) (mixed u (P (suc n)) (value K false u P n x) (value K false u P n y)) pos,
      )

  pub near-width : (n : ℕ) → 0 < n → ((i : ℕ) → i ≤ n → P' i ≤ u) → ((i : ℕ) → i ≤ n → P i ≤ P' i) → ((i : ℕ) → i ≤ n → P' i ≤ P i + 1) → (m : M)
      → value K true u P' n m - value K false u P n m ≤ 2 * n - 1
  near-width n some t a b m = omega (arith, (enclosed K u P' pos n some t m).width, value-near n t a b m)
