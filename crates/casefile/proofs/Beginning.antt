-- A list that is filled from the front: none is filled at first, and a store at the first place not yet filled fills one more. Assumes nothing.
use Rattle.std.proofs.Common.{◌≡◌, ℕ, ◌+◌, ◌<◌, ◌≤◌, List, length, get_or, set, refl, ◌∙◌, arith, length-set, get_or-set_other, get_or-set_same, below_more}
use Rattle.casefile.specs.Begins.{Begins}

pub begins-none : (f : ℕ → ℕ) (xs : List ℕ) → Begins f xs xs 0
begins-none f xs = record { passed = omega arith; kept = refl; each = λ j l. absurd (omega arith) }

module _ {f : ℕ → ℕ} {before after : List ℕ} {k : ℕ} (b : Begins f before after k) where
  pub begins-more : (v : ℕ) → k < length before → v ≡ f k → Begins f before (set after k v) (k + 1)
  begins-more v l e = record {
    passed = simp length-set (omega (arith, b.kept));
    kept = simp length-set b.kept;
    each =
        below_more (λ j. get_or (set after k v) j 0 ≡ f j) k
        (λ j m. get_or-set_other after k j v 0 (λ q. omega arith) ∙ b.each j m)
        (get_or-set_same after k v 0 (omega (arith, b.kept)) ∙ e);
  }

  -- where every place is filled
  pub begins-all : length before ≤ k → Begins f before after (length before)
  begins-all l = let e : k ≡ length before = omega (arith, b.passed, b.kept) in rw e at b
