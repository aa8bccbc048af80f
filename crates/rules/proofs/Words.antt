-- Counting words, for any test: the words below 2^(n+1) are those below 2^n and the same with bit n set, so a count over them is the sum of two.
-- The upper half is written `1 * 2 ^ n + w`, as the laws of `lib.Count` and `lib.Arith` have it. Assumes nothing.
use mathlib.Core.Path.{◌≡◌, refl, ap, ◌∙◌}
use mathlib.Core.Bool.{Bool, true, false, cond, and-true, and-false, and-eq-true_iff}
use Prim.Native.Nat.{ℕ, zero, suc, ◌+◌, ◌*◌, ◌^◌, ◌≤◌, ◌<◌}
use native.Mathlib.Omega.{arith}
use native.Mathlib.Nat.{zero-add, add-zero, add-suc, one-mul}
use lib.Dec.{eqb, eqb-zero-suc, eqb-suc-zero, eqb-suc-suc}
use lib.Count.{ones}
use Rattle.rules.specs.Below.{held}
use Rattle.rules.specs.Count.{count_if}
use Rattle.rules.proofs.Sums.{held_same}
use Rattle.rules.proofs.Bits.{ones-high}

pub held-add : (p : ℕ → Bool) (a b : ℕ) → held p (a + b) ≡ held p a + held (λ w. p (a + w)) b
unfolding held
held-add p a zero = rw (add-zero a) (omega arith)
held-add p a (suc b) = rw add-suc (omega (arith, held-add p a b))

pub held_none : (p : ℕ → Bool) (k : ℕ) → ((w : ℕ) → w < k → p w ≡ false) → held p k ≡ 0
unfolding held
held_none p zero e = refl
held_none p (suc k) e = rw (e k (omega arith), held_none p k (λ w l. e w (omega arith)))

one-le : (a b : Bool) → (a ≡ true → b ≡ true) → cond a 1 0 ≤ cond b 1 0
one-le true b h = rw (h refl) (omega arith)
one-le false b h = omega arith

-- a test that lets more pass holds at no fewer places
pub held_more : (p q : ℕ → Bool) (k : ℕ) → ((w : ℕ) → w < k → p w ≡ true → q w ≡ true) → held p k ≤ held q k
unfolding held
held_more p q zero h = omega arith
held_more p q (suc k) h = omega (arith, one-le (p k) (q k) (h k (omega arith)), held_more p q k (λ w l. h w (omega arith)))

-- where no state works
pub count_none : (working : ℕ → Bool) (n j : ℕ) → ((w : ℕ) → working w ≡ false) → count_if working n j ≡ 0
unfolding count_if
count_none working n j h = held_none _ (2 ^ n) (λ w l. rw (h w))

-- the words of one more bit: those with the new bit clear, and those with it set
pub held-split : (n : ℕ) (p low high : ℕ → Bool) → ((w : ℕ) → w < 2 ^ n → p w ≡ low w) → ((w : ℕ) → w < 2 ^ n → p (1 * 2 ^ n + w) ≡ high w)
    → held p (2 ^ suc n) ≡ held low (2 ^ n) + held high (2 ^ n)
held-split n p low high l h =
    let e : 2 ^ suc n ≡ 1 * 2 ^ n + 2 ^ n = omega arith in
    rw e
    (omega (
      arith,
      held-add p (1 * 2 ^ n) (2 ^ n),
      ap (held p) (one-mul (2 ^ n)),
      held_same p low (2 ^ n) l,
      held_same (λ w. p (1 * 2 ^ n + w)) high (2 ^ n) h,
    ))

-- no components: one state, with none failed
pub count-base : (working : ℕ → Bool) → count_if working 0 0 ≡ cond (working 0) 1 0
unfolding count_if held ones
count-base working = rw (and-true, zero-add)

-- none failed: the new component works
pub count-zero : (working : ℕ → Bool) (n : ℕ) → count_if working (suc n) 0 ≡ count_if working n 0
unfolding count_if
count-zero working n =
    held-split n _ _ (λ w. false) (λ w h. refl) (λ w h. rw (ones-high n w h, eqb-suc-zero, and-false))
    ∙ rw (held_none (λ w. false) (2 ^ n) (λ w h. refl)) (omega arith)

-- the new component works, or has failed and leaves one failed less to the others
pub count-suc : (working : ℕ → Bool) (n j : ℕ) → count_if working (suc n) (suc j) ≡ count_if working n (suc j) + count_if (λ w. working (1 * 2 ^ n + w)) n j
unfolding count_if
count-suc working n j = held-split n _ _ _ (λ w h. refl) (λ w h. rw (ones-high n w h, eqb-suc-suc))

-- no state has more failed than there are components
pub count-above : (working : ℕ → Bool) (n j : ℕ) → n < j → count_if working n j ≡ 0
unfolding count_if held ones
count-above working n zero h = absurd (omega arith)
count-above working zero (suc j) h = rw (eqb-zero-suc, and-false)
count-above working (suc n) (suc j) h =
    rw (count-suc, count-above working n (suc j) (omega arith), count-above (λ w. working (1 * 2 ^ n + w)) n j (omega arith))

-- the working states are among all states
pub count-le : (working : ℕ → Bool) (n j : ℕ) → count_if working n j ≤ count_if (λ w. true) n j
unfolding count_if
count-le working n j = held_more _ _ (2 ^ n) (λ w h e. ((and-eq-true_iff (working w) (eqb (ones w) j)).0 e).1)
