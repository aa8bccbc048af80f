-- Laws of the windows: what it means that none fails, where a place on the ring stands, and how two statements give a verdict. Assumes nothing.
use mathlib.Core.Path.{◌≡◌, refl, sym, ◌∙◌, subst}
use mathlib.Core.Logic.{◌⊎◌, inl, inr, ◌↔◌}
use mathlib.Core.Bool.{Bool, true, false, cond, not, ◌||◌, true≢false, false≢true}
use Prim.Native.Nat.{ℕ, zero, suc, ◌+◌, ◌%◌, ◌≤◌, ◌<◌}
use native.Mathlib.Omega.{arith}
use native.Mathlib.Nat.{eq-or-lt_of_le, le_of_suc-le-suc, lt_of_not-le, mod-eq_of_lt, add-mod_right}
use lib.Dec.{leb}
use borrow.Author.Tests.{leb-true, le-leb}
use Rattle.rules.specs.Below.{held, some}
use Rattle.rules.specs.State.{held_in, starts}
use Rattle.rules.specs.Verdict.{some_window}

-- where one statement says that a reading works and that no window fails, the reading is the verdict
pub opposite : (a b : Bool) {P : Type 0} → ((a ≡ true) ↔ P) → ((b ≡ false) ↔ P) → a ≡ not b
opposite true true h k = absurd (true≢false (k.1 (h.0 refl)))
opposite true false h k = refl
opposite false true h k = refl
opposite false false h k = absurd (false≢true (h.1 (k.0 refl)))

-- of the places below i + 1: those below i, and i
pub last : (P : ℕ → Type 0) (i : ℕ) → ((p : ℕ) → p < i → P p) → P i → (p : ℕ) → p < suc i → P p
last P i below at p l = go (eq-or-lt_of_le (le_of_suc-le-suc l))
  where
    go : (p ≡ i) ⊎ (p < i) → P p
    go (inl q) = rw q at
    go (inr h) = below p h

-- of the places from i on: i, and those above it
pub first : (P : ℕ → Type 0) (i : ℕ) → P i → ((p : ℕ) → i < p → P p) → (p : ℕ) → i ≤ p → P p
first P i here above p l = go (eq-or-lt_of_le l)
  where
    go : (i ≡ p) ⊎ (i < p) → P p
    go (inl q) = subst P q here
    go (inr h) = above p h

pub not-lt : (x m : ℕ) → (x < m → ⊥) → m ≤ x
not-lt x m h = le_of_suc-le-suc (lt_of_not-le h)

or-none : (a b : Bool) → (a || b ≡ false) ↔ ((a ≡ false) × (b ≡ true → ⊥))
or-none true b = (λ e. absurd (true≢false e), λ h. h.0)
or-none false true = (λ e. absurd (true≢false e), λ h. absurd (h.1 refl))
or-none false false = (λ e. (refl, false≢true), λ h. refl)

pub some-none : (p : ℕ → Bool) (k : ℕ) → (some p k ≡ false) ↔ ((a : ℕ) → a < k → p a ≡ true → ⊥)
unfolding some
some-none p zero = (λ e a h. omega arith, λ h. refl)
some-none p (suc k) = (
  λ e. last _ k ((some-none p k).0 ((or-none (some p k) (p k)).0 e).0) ((or-none (some p k) (p k)).0 e).1,
  λ h. (or-none (some p k) (p k)).1 ((some-none p k).1 (λ a l. h a (omega arith)), h k (omega arith)),
)

pub some-found : (p : ℕ → Bool) (k a : ℕ) → a < k → p a ≡ true → some p k ≡ true
some-found p k a l e = go (some p k) refl
  where
    go : (b : Bool) → some p k ≡ b → some p k ≡ true
    go true h = h
    go false h = absurd ((some-none p k).0 h a l e)

-- fewer than c + 1 are held: at each that is held there are fewer than c before it
pub held-fewer : (p : ℕ → Bool) (c k : ℕ) → (held p k < suc c) ↔ ((e : ℕ) → e < k → p e ≡ true → held p e < c)
unfolding held
held-fewer p c zero = (λ h e l. omega arith, λ h. omega arith)
held-fewer p c (suc k) = go (held-fewer p c k) (p k) refl
  where
    go : ((held p k < suc c) ↔ ((e : ℕ) → e < k → p e ≡ true → held p e < c)) → (b : Bool) → p k ≡ b
        → (held p k + cond (p k) 1 0 < suc c) ↔ ((e : ℕ) → e < suc k → p e ≡ true → held p e < c)
    go ih true q = rw q (λ h. last _ k (ih.0 (omega arith)) (λ t. omega arith), λ h. omega (arith, h k (omega arith) q))
    go ih false q =
        rw q (
          λ h. last _ k (ih.0 (omega arith)) (λ t. absurd (false≢true (sym q ∙ t))),
          λ h. omega (arith, ih.1 (λ e l. h e (omega arith))),
        )

pub held_all : (p : ℕ → Bool) (k : ℕ) → ((d : ℕ) → d < k → p d ≡ true) → held p k ≡ k
unfolding held
held_all p zero h = refl
held_all p (suc k) h = rw (h k (omega arith)) (omega (arith, held_all p k (λ d l. h d (omega arith))))

pub held-le : (p : ℕ → Bool) (k : ℕ) → held p k ≤ k
unfolding held
held-le p zero = omega arith
held-le p (suc k) = go (held-le p k) (p k)
  where
    go : held p k ≤ k → (b : Bool) → held p k + cond b 1 0 ≤ suc k
    go ih true = omega arith
    go ih false = omega arith

pub all_held : (p : ℕ → Bool) (k : ℕ) → k ≤ held p k → (d : ℕ) → d < k → p d ≡ true
unfolding held
all_held p zero h = λ d l. absurd (omega arith)
all_held p (suc k) h = go (all_held p k) (p k) refl
  where
    go : (k ≤ held p k → (d : ℕ) → d < k → p d ≡ true) → (b : Bool) → p k ≡ b → (d : ℕ) → d < suc k → p d ≡ true
    go ih true q = last _ k (ih (omega (arith, rw q at h))) q
    go ih false q = absurd (omega (arith, held-le p k, rw q at h))

pub no-window : (ring : Bool) (n width need w : ℕ)
    → (some_window ring n width need w ≡ false) ↔ ((a : ℕ) → a < starts ring n width → held_in n a w width < need)
unfolding some_window
no-window ring n width need w =
    let s = some-none (λ a. leb need (held_in n a w width)) (starts ring n width) in (
      λ e a l. lt_of_not-le (λ g. s.0 e a l (le-leb _ _ g)),
      λ h. s.1 (λ a l e. omega (arith, leb-true, h a l)),
    )

-- the place of x on the ring: x itself, or a turn less
pub at : (f : ℕ → Bool) (n x p : ℕ) → x ≡ p → p < n → f (x % n) ≡ f p
at f n x p e l = rw (e, mod-eq_of_lt l)

pub turned : (f : ℕ → Bool) (n x p : ℕ) → x ≡ p + n → p < n → f (x % n) ≡ f p
turned f n x p e l = rw (e, add-mod_right p n, mod-eq_of_lt l)
