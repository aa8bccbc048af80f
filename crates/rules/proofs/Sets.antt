-- Request 11: a sum over every set of failed boards. E over fans and boards is such a sum: of the product of the boards' numbers times E of the list with those
-- fans' survival 0, since states fall apart into the boards' and the fans'. And such a sum falls into the sets without board 1 and those with it, since board 1 is
-- the lowest bit of a set. Assumes nothing.
use mathlib.Core.Path.{◌≡◌, refl, ap, ap₂, sym, ◌∙◌}
use mathlib.Core.Bool.{Bool, cond}
use mathlib.Core.List.{List, [], ◌∷◌, ◌++◌}
use Prim.Native.Nat.{ℕ, zero, suc, ◌+◌, ◌*◌, ◌/◌, ◌%◌, ◌^◌, ◌≤◌, ◌<◌}
use native.Mathlib.Omega.{arith}
use native.Mathlib.Nat.{add-zero, add-suc, pow-suc, pow-succ', div-div-eq-div-mul, div-one}
use lib.Arith.{digits_div, digits_mod}
use lib.Dec.{eqb}
use lib.ListN.{length, get_or-append}
use lib.Pow.{pow-add}
use lib.Seq.{get_or-append-add}
use Rattle.rules.specs.declared.Rule.{Rule}
use Rattle.rules.specs.Below.{sum_below}
use Rattle.rules.specs.State.{number_of, failure, down}
use Rattle.rules.specs.Verdict.{works}
use Rattle.rules.specs.Figure.{product, exact_if, exact}
use Rattle.rules.specs.Boards.{lost, behind, fans_down, works_behind, exact_behind}
use Rattle.rules.proofs.Sums.{sum-scale, sum_same, sum-split}
use Rattle.rules.proofs.Bits.{down-low, down-high}
use Rattle.rules.proofs.Split.{product-above, product-same, exact-halves, exact_same, exact-numbers}
use Rattle.rules.proofs.Lists.{below_length, below_get}
use Rattle.rules.proofs.Lost.{exact-lost}

-- a sum over every set of failed boards, each weighed by the product of the boards' P and Q
unfoldable pub over_sets : (u : ℕ) (switchboards : List ℕ) (f : ℕ → ℕ) → ℕ
over_sets u switchboards f = sum_below (2 ^ length switchboards) (λ out. product u (number_of switchboards) (length switchboards) out * f out)

-- ---- E, of any test: the parts above n and those below

module _ (u : ℕ) (P : ℕ → ℕ) (n : ℕ) where
  abbrev upper : ℕ → ℕ
  upper b = P (n + b)

  abbrev lower : (ℕ → Bool) → ℕ → ℕ
  lower p out = exact_if (λ w. p (out * 2 ^ n + w)) u P n

  exact-join : (g : ℕ) (p : ℕ → Bool) → exact_if p u P (n + g) ≡ sum_below (2 ^ g) (λ out. product u upper g out * lower p out)
  unfolding sum_below product
  exact-join zero p =
      rw (add-zero n) (exact_same p (λ w. p (0 * 2 ^ n + w)) u P n (λ w l. ap p (omega arith)) ∙ omega arith)
  exact-join (suc g) p =
      let c = P (suc (n + g)) in
      let d = failure u c in
      let p' : ℕ → Bool = λ w. p (1 * 2 ^ (n + g) + w) in
      let e : n + suc g ≡ suc (n + g) = omega arith in
      let s : sum_below (2 ^ suc g) (λ out. product u upper (suc g) out * lower p out)
      ≡ c * sum_below (2 ^ g) (λ out. product u upper g out * lower p out) + d * sum_below (2 ^ g) (λ out. product u upper g out * lower p' out) =
      sum-split g c d _ _ _
      (λ out l. rw (down-low g out l, e) (omega arith))
      (λ out l. rw (down-high g out l, e, product-above u upper g 1 out, lower_high g p out) (omega arith)) in
      ap (exact_if p u P) e ∙ exact-halves p u P (n + g) ∙ rw (exact-join g p, exact-join g p') (sym s)
    where
      lower_high : (g : ℕ) (p : ℕ → Bool) (out : ℕ) → lower p (1 * 2 ^ g + out) ≡ lower (λ w. p (1 * 2 ^ (n + g) + w)) out
      lower_high g p out = exact_same _ _ u P n (λ w l. ap p (rw (pow-add 2 n g) (omega arith)))

-- ---- the list with the fans on failed boards at 0

pub behind-length : (boards : List ℕ) (out : ℕ) (survival : List ℕ) → length (behind boards out survival) ≡ length survival
unfolding behind
behind-length boards out survival = below_length (length survival) _

pub behind-number : (boards : List ℕ) (out : ℕ) (survival : List ℕ) (i : ℕ) → i < length survival
    → number_of (behind boards out survival) (suc i) ≡ cond (lost boards out (suc i)) 0 (number_of survival (suc i))
unfolding behind number_of
behind-number boards out survival i l = below_get (length survival) _ 0 i l

-- the numbers of two lists one after the other
number-first : (xs ys : List ℕ) (i : ℕ) → i < length xs → number_of (xs ++ ys) (suc i) ≡ number_of xs (suc i)
unfolding number_of
number-first xs ys i l = get_or-append xs ys 0 i l

number-second : (xs ys : List ℕ) (i : ℕ) → number_of (xs ++ ys) (length xs + suc i) ≡ number_of ys (suc i)
unfolding number_of
number-second xs ys i = rw (add-suc (length xs) i) (get_or-append-add xs ys i 0)

module _ (u : ℕ) (rule : Rule) (survival beside boards : List ℕ) (units : (i : ℕ) → number_of survival i ≤ u) where
  abbrev n : ℕ
  n = length survival

  -- one set of failed boards: that those fans' survival is 0 is right of E
  exact-set : (out : ℕ) → exact_if (λ w. works_behind rule n beside boards (out * 2 ^ n + w)) u (number_of survival) n ≡ exact u rule (behind boards out survival) beside
  unfolding works_behind
  exact-set out =
      exact_same _ (λ w. works rule n beside (fans_down (lost boards out) n w)) u (number_of survival) n
      (λ w l. rw (digits_div out l, digits_mod out l))
      ∙ exact-lost (lost boards out) u (number_of survival) n (λ i l. units i) (works rule n beside)
      ∙ exact-numbers _ u _ (number_of (behind boards out survival)) n (λ i l. sym (behind-number boards out survival i l))
      ∙ rw (behind-length boards out survival)

  pub exact-boards : (switchboards : List ℕ)
      → exact_behind u rule survival beside boards switchboards ≡ over_sets u switchboards (λ out. exact u rule (behind boards out survival) beside)
  unfolding over_sets
  exact-boards switchboards =
      let g = length switchboards in
      let P = number_of (survival ++ switchboards) in
      exact-join u P n g (works_behind rule n beside boards)
      ∙ sum_same (2 ^ g) _ _
      (λ out l. rw (
        product-same u (λ b. P (n + b)) (number_of switchboards) g out (λ i l. number-second survival switchboards i),
        exact-numbers (λ w. works_behind rule n beside boards (out * 2 ^ n + w)) u P (number_of survival) n (number-first survival switchboards),
        exact-set out,
      ))

-- ---- the sets without board 1, and those with it

-- the even numbers and the odd ones
sum-alternate : (k : ℕ) (f : ℕ → ℕ) → sum_below (k * 2) f ≡ sum_below k (λ out. f (out * 2)) + sum_below k (λ out. f (out * 2 + 1))
unfolding sum_below
sum-alternate zero f = refl
sum-alternate (suc k) f =
    let e : suc k * 2 ≡ suc (suc (k * 2)) = omega arith in
    let o : k * 2 + 1 ≡ suc (k * 2) = omega arith in
    rw (e, o) (omega (arith, sum-alternate k f))

-- the bits above the lowest one
pub down-up : (g out c : ℕ) → c < 2 → down (suc g) (out * 2 + c) ≡ down g out
down-up g out c l = rw (pow-succ' 2 g, ← (div-div-eq-div-mul (out * 2 + c) 2 (2 ^ g)), digits_div out l)

product-top : (u : ℕ) (P : ℕ → ℕ) (i w : ℕ) → product u P (suc i) w ≡ cond (down i w) (failure u (P (suc i))) (P (suc i)) * product u P i w
unfolding product
product-top u P i w = refl

product-none : (u : ℕ) (P : ℕ → ℕ) (w : ℕ) → product u P 0 w ≡ 1
unfolding product
product-none u P w = refl

-- the lowest component's factor first
product-lowest : (u : ℕ) (P : ℕ → ℕ) (g out c : ℕ) → c < 2
    → product u P (suc g) (out * 2 + c) ≡ cond (eqb c 1) (failure u (P 1)) (P 1) * product u (λ b. P (suc b)) g out
product-lowest u P zero out c l =
    let e : (out * 2 + c) / 2 ^ 0 % 2 ≡ c = rw (div-one (out * 2 + c)) (digits_mod out l) in
    rw (product-top u P 0 (out * 2 + c), e, product-none u P (out * 2 + c), product-none u (λ b. P (suc b)) out)
product-lowest u P (suc g) out c l =
    rw (product-top u P (suc g) (out * 2 + c), product-top u (λ b. P (suc b)) g out, down-up g out c l, product-lowest u P g out c l) (omega arith)

-- no boards: one set, the empty one
pub sets-none : (u : ℕ) (f : ℕ → ℕ) → over_sets u [] f ≡ f 0
unfolding over_sets sum_below product
sets-none u f = omega arith

pub sets_first : (u q : ℕ) (qs : List ℕ) (f : ℕ → ℕ)
    → over_sets u (q ∷ qs) f ≡ q * over_sets u qs (λ out. f (out * 2)) + failure u q * over_sets u qs (λ out. f (out * 2 + 1))
unfolding over_sets number_of
sets_first u q qs f =
    let g = length qs in
    let P = number_of (q ∷ qs) in
    let tail : (out : ℕ) → product u (λ b. P (suc b)) g out ≡ product u (number_of qs) g out = λ out. product-same u _ _ g out (λ i l. refl) in
    let without : (out : ℕ) → product u P (suc g) (out * 2) ≡ q * product u (number_of qs) g out =
    λ out. ap (product u P (suc g)) (omega arith) ∙ product-lowest u P g out 0 (omega arith) ∙ rw (tail out) in
    let with_it : (out : ℕ) → product u P (suc g) (out * 2 + 1) ≡ failure u q * product u (number_of qs) g out =
    λ out. product-lowest u P g out 1 (omega arith) ∙ rw (tail out) in
    rw (pow-suc 2 g)
    (sum-alternate (2 ^ g) _
    ∙ ap₂ ◌+◌ (sum-scale (2 ^ g) q _ _ (λ out l. rw (without out) (omega arith))) (sum-scale (2 ^ g) (failure u q) _ _ (λ out l. rw (with_it out) (omega arith))))
