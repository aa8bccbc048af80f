-- Finer numbers, at c times the unit, that lie between a lower and an upper list: low of the lower list and high of the upper one enclose their exact
-- sum, since it scales and, but under kind 3, rises with each number; and they are at most 2n - 1 units apart where the lists are at most 1 apart.
-- Assumes nothing.
use mathlib.Core.Path.{◌≡◌, sym, ◌∙◌}
use mathlib.Core.Bool.{true}
use mathlib.Core.List.{List}
use Prim.Native.Nat.{ℕ, zero, suc, ◌+◌, ◌*◌, ◌-◌, ◌^◌, ◌≤◌, ◌<◌}
use native.Mathlib.Omega.{arith}
use native.Mathlib.Nat.{pow-zero, pow-suc, mul-le-mul_left, mul-le-mul_right, le_of_mul-le-mul_left, le_trans}
use lib.ListN.{length, get_or, length-map}
use Rattle.rules.specs.declared.Rule.{Rule}
use Rattle.rules.specs.State.{number_of}
use Rattle.rules.specs.Memory.{machine}
use Rattle.rules.specs.Figure.{low, high, exact}
use Rattle.rules.specs.Refusal.{in_range}
use Rattle.rules.specs.Better.{NoLower, rising}
use Rattle.rules.proofs.Near.{near-width}
use Rattle.rules.proofs.Conditions.{below-unit}
use Rattle.rules.proofs.Better.{numbers, better-exact}
use Rattle.rules.proofs.Scaling.{scaled, scaled-get, exact-scaled}

pub record Finer (u c : ℕ) (xs ys vs : List ℕ) : Type 0 where
  pub lower_length : length xs ≡ length vs
  pub upper_length : length ys ≡ length vs
  pub under : (i : ℕ) → c * get_or xs i 0 ≤ get_or vs i 0
  pub over : (i : ℕ) → get_or vs i 0 ≤ c * get_or ys i 0
  pub near : (i : ℕ) → get_or ys i 0 ≤ get_or xs i 0 + 1
  pub small : (i : ℕ) → get_or ys i 0 ≤ u

module _ {u c : ℕ} {xs ys vs : List ℕ} (some : 0 < c) (f : Finer u c xs ys vs) where
  in_order : NoLower xs ys
  in_order = record { same_length = f.lower_length ∙ sym f.upper_length; no_lower = λ i. le_of_mul-le-mul_left (le_trans (f.under i) (f.over i)) some }

  -- the exact sum of each list, in the finer unit, beside that of the finer numbers
  module _ (rule : Rule) (beside : List ℕ) (kind : rising rule.kind ≡ true) (range : in_range rule (length vs) beside ≡ true) where
    pub finer-low : c ^ length xs * exact u rule xs beside ≤ exact (c * u) rule vs beside
    finer-low =
        rw (← (exact-scaled c u rule xs beside))
        (better-exact (c * u) (scaled c xs) vs beside
        (record { same_length = length-map xs (λ x. c * x) ∙ f.lower_length; no_lower = λ i. rw (scaled-get c xs i) (f.under i) })
        (λ i. le_trans (f.over i) (mul-le-mul_left c (f.small i))) rule kind range)

    pub finer-high : exact (c * u) rule vs beside ≤ c ^ length ys * exact u rule ys beside
    finer-high =
        let same : length vs ≡ length (scaled c ys) = sym (length-map ys (λ x. c * x) ∙ f.upper_length) in
        rw (← (exact-scaled c u rule ys beside))
        (better-exact (c * u) vs (scaled c ys) beside
        (record { same_length = same; no_lower = λ i. rw (scaled-get c ys i) (f.over i) })
        (λ i. rw (scaled-get c ys i) (mul-le-mul_left c (f.small i))) rule kind (rw (← same) range))

  pub finer-width : (rule : Rule) (beside : List ℕ) → 0 < u → 0 < length vs → high u rule ys beside - low u rule xs beside ≤ 2 * length vs - 1
  finer-width rule beside pos fans =
      rw (f.lower_length, f.upper_length)
      (near-width (machine rule beside) u pos (number_of xs) (number_of ys) (length vs) fans (λ i l. below-unit ys f.small i)
      (λ i l. numbers xs ys in_order i) (λ i l. one_more i) _)
    where
      one_more : (i : ℕ) → number_of ys i ≤ number_of xs i + 1
      one_more zero = unfold number_of in omega arith
      one_more (suc i) = unfold number_of in (f.near i)

-- ---- from the unit to the finer one

mul-pow : (c u n : ℕ) → (c * u) ^ n ≡ c ^ n * u ^ n
mul-pow c u zero = rw (pow-zero (c * u), pow-zero c, pow-zero u)
mul-pow c u (suc n) = rw (pow-suc (c * u) n, pow-suc c n, pow-suc u n, mul-pow c u n) (omega arith)

-- v u^(n-1) against e, and c^n e against x, give v (c u)^n against x u
pub step-low : (c u n v e x : ℕ) → 0 < n → v * u ^ (n - 1) ≤ e → c ^ n * e ≤ x → v * (c * u) ^ n ≤ x * u
step-low c u zero v e x some h g = absurd (omega arith)
step-low c u (suc n) v e x some h g =
    let d : suc n - 1 ≡ n = omega arith in
    rw (mul-pow c u (suc n), pow-suc u n)
    (omega (arith, mul-le-mul_right u (mul-le-mul_left (c ^ suc n) (rw d at h)), mul-le-mul_right u g))

pub step-high : (c u n v e x : ℕ) → 0 < n → e ≤ v * u ^ (n - 1) → x ≤ c ^ n * e → x * u ≤ v * (c * u) ^ n
step-high c u zero v e x some h g = absurd (omega arith)
step-high c u (suc n) v e x some h g =
    let d : suc n - 1 ≡ n = omega arith in
    rw (mul-pow c u (suc n), pow-suc u n)
    (omega (arith, mul-le-mul_right u (mul-le-mul_left (c ^ suc n) (rw d at h)), mul-le-mul_right u g))
