-- Every survival number and the unit times c: the exact sum over n components times c^n, product by product. Assumes nothing.
use mathlib.Core.Path.{◌≡◌, refl}
use mathlib.Core.Bool.{Bool, true, false, cond}
use mathlib.Core.List.{List, [], ◌∷◌, map}
use Prim.Native.Nat.{ℕ, zero, suc, ◌*◌, ◌-◌, ◌^◌}
use native.Mathlib.Omega.{arith}
use native.Mathlib.Nat.{pow-zero, pow-suc, mul-sub}
use lib.ListN.{length, get_or, length-map}
use Rattle.rules.specs.declared.Rule.{Rule}
use Rattle.rules.specs.State.{number_of, down}
use Rattle.rules.specs.Figure.{product, exact_if, exact}
use Rattle.rules.proofs.Sums.{sum-scale}
use Rattle.rules.proofs.Split.{cond-mul}

-- each number of a list, in parts c times as fine
abbrev pub scaled : (c : ℕ) → List ℕ → List ℕ
scaled c xs = map (λ x. c * x) xs

pub scaled-get : (c : ℕ) (xs : List ℕ) (i : ℕ) → get_or (scaled c xs) i 0 ≡ c * get_or xs i 0
scaled-get c [] i = omega arith
scaled-get c (x ∷ xs) zero = refl
scaled-get c (x ∷ xs) (suc i) = scaled-get c xs i

scaled-number : (c : ℕ) (xs : List ℕ) (i : ℕ) → number_of (scaled c xs) i ≡ c * number_of xs i
unfolding number_of
scaled-number c xs zero = omega arith
scaled-number c xs (suc i) = scaled-get c xs i

factor : (b : Bool) (c u p k x : ℕ) → cond b (c * u - c * p) (c * p) * (k * x) ≡ k * c * (cond b (u - p) p * x)
factor true c u p k x = rw (← (mul-sub c u p)) (omega arith)
factor false c u p k x = omega arith

product-scale : (c u : ℕ) (xs : List ℕ) (n w : ℕ) → product (c * u) (number_of (scaled c xs)) n w ≡ c ^ n * product u (number_of xs) n w
unfolding product
product-scale c u xs zero w = rw (pow-zero c)
product-scale c u xs (suc n) w =
    rw (scaled-number c xs (suc n), product-scale c u xs n w, pow-suc c n)
    (factor (down n w) c u (number_of xs (suc n)) (c ^ n) (product u (number_of xs) n w))

exact-scale : (c : ℕ) (p : ℕ → Bool) (u : ℕ) (xs : List ℕ) (n : ℕ) → exact_if p (c * u) (number_of (scaled c xs)) n ≡ c ^ n * exact_if p u (number_of xs) n
unfolding exact_if
exact-scale c p u xs n = sum-scale (2 ^ n) (c ^ n) _ _ (λ w l. rw (product-scale c u xs n w, cond-mul))

pub exact-scaled : (c u : ℕ) (rule : Rule) (xs beside : List ℕ) → exact (c * u) rule (scaled c xs) beside ≡ c ^ length xs * exact u rule xs beside
exact-scaled c u rule xs beside = rw (length-map xs (λ x. c * x)) (exact-scale c _ u xs (length xs))
