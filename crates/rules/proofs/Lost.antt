-- Request 11: fans that are lost with their boards, whatever their own state. The exact sum over the states so changed is that of the list with their survival
-- 0: such a fan's P and Q add up to the unit, and the unit is Q where P is 0. By induction over the fans, for every test at once. Assumes nothing.
use mathlib.Core.Path.{◌≡◌, refl, ap, sym, ◌∙◌}
use mathlib.Core.Bool.{Bool, true, false, cond, ◌||◌, or-true}
use Prim.Native.Nat.{ℕ, zero, suc, ◌+◌, ◌*◌, ◌-◌, ◌^◌, ◌≤◌, ◌<◌}
use native.Mathlib.Omega.{arith}
use native.Mathlib.Decide.{dec_lt}
use native.Mathlib.Nat.{zero-add, sub-zero}
use Rattle.rules.specs.Below.{sum_below}
use Rattle.rules.specs.State.{down}
use Rattle.rules.specs.Figure.{product, exact_if}
use Rattle.rules.specs.Boards.{fans_down}
use Rattle.rules.proofs.Bits.{down-low, down-high, shift, bit-above}
use Rattle.rules.proofs.Split.{exact_same, exact-halves}

-- P and Q add up to the unit, which is Q where P is 0
both : (u p x y : ℕ) → p ≤ u → 0 * y + (u - 0) * x ≡ p * x + (u - p) * x
both u p x y s =
    let e : p + (u - p) ≡ u = omega arith in
    rw sub-zero (omega (arith, ap (λ v. v * x) e))

module _ (gone : ℕ → Bool) where
  -- what stands above the fans that are read is not seen
  down-above : (i a w : ℕ) → fans_down gone i (a * 2 ^ i + w) ≡ fans_down gone i w
  unfolding fans_down
  down-above zero a w = refl
  down-above (suc i) a w = rw (bit-above a i w, shift a i, down-above i (a * 2) w)

  fan-works : (i w : ℕ) → gone (suc i) ≡ false → w < 2 ^ i → fans_down gone (suc i) w ≡ fans_down gone i w
  unfolding fans_down
  fan-works i w e l = rw (e, down-low i w l, zero-add)

  fan-fails : (i w : ℕ) → w < 2 ^ i → fans_down gone (suc i) (1 * 2 ^ i + w) ≡ 1 * 2 ^ i + fans_down gone i w
  unfolding fans_down
  fan-fails i w l = rw (down-high i w l, or-true, down-above i 1 w)

  fan-lost : (i w : ℕ) → gone (suc i) ≡ true → fans_down gone (suc i) w ≡ 1 * 2 ^ i + fans_down gone i w
  unfolding fans_down
  fan-lost i w e = rw e

  -- where none is lost the state is the fans' own
  pub none-lost : ((i : ℕ) → gone i ≡ false) → (n w : ℕ) → w < 2 ^ n → fans_down gone n w ≡ w
  unfolding fans_down
  none-lost none zero w l = omega arith
  none-lost none (suc n) w l =
      elim (dec_lt w (2 ^ n)) [
        | yes h ↦ fan-works n w (none (suc n)) h ∙ none-lost none n w h
        | no h ↦
            let v = w - 1 * 2 ^ n in
            let e : w ≡ 1 * 2 ^ n + v = omega arith in
            let s : v < 2 ^ n = omega arith in
            ap (fans_down gone (suc n)) e ∙ fan-fails n v s ∙ ap (λ x. 1 * 2 ^ n + x) (none-lost none n v s) ∙ sym e
      ]

  module _ (u : ℕ) (P : ℕ → ℕ) where
    -- the numbers that are left
    abbrev left : ℕ → ℕ
    left i = cond (gone i) 0 (P i)

    module _ (i : ℕ) (p : ℕ → Bool) (below : (q : ℕ → Bool) → exact_if (λ w. q (fans_down gone i w)) u P i ≡ exact_if q u left i) where
      abbrev top : ℕ → Bool
      top w = p (1 * 2 ^ i + w)

      failed : exact_if (λ w. p (fans_down gone (suc i) (1 * 2 ^ i + w))) u P i ≡ exact_if top u left i
      failed = exact_same _ _ u P i (λ w l. ap p (fan-fails i w l)) ∙ below top

      step : (b : Bool) → gone (suc i) ≡ b → P (suc i) ≤ u → exact_if (λ w. p (fans_down gone (suc i) w)) u P (suc i) ≡ exact_if p u left (suc i)
      step true e s =
          let worked : exact_if (λ w. p (fans_down gone (suc i) w)) u P i ≡ exact_if top u left i =
          exact_same _ _ u P i (λ w l. ap p (fan-lost i w e)) ∙ below top in
          exact-halves _ u P i ∙ rw (worked, failed) (sym (exact-halves p u left i ∙ rw e (both u (P (suc i)) _ _ s)))
      step false e s =
          let worked : exact_if (λ w. p (fans_down gone (suc i) w)) u P i ≡ exact_if p u left i =
          exact_same _ _ u P i (λ w l. ap p (fan-works i w e l)) ∙ below p in
          exact-halves _ u P i ∙ rw (worked, failed) (sym (exact-halves p u left i ∙ rw e refl))

    pub exact-lost : (n : ℕ) → ((i : ℕ) → i ≤ n → P i ≤ u) → (p : ℕ → Bool) → exact_if (λ w. p (fans_down gone n w)) u P n ≡ exact_if p u left n
    unfolding exact_if sum_below product fans_down
    exact-lost zero s p = refl
    exact-lost (suc i) s p = step i p (exact-lost i (λ j l. s j (omega arith))) (gone (suc i)) refl (s _ (omega arith))
