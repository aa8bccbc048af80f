-- Two memories that keep step with each other read alike and have the same values: the same `run`, and the same rounded `value`.
-- By this the line is read as a ring past its lead, and the program's own memory as document 01's. Assumes nothing.
use mathlib.Core.Path.{◌≡◌, sym, ◌∙◌}
use mathlib.Core.Bool.{Bool}
use Prim.Native.Nat.{ℕ, zero, suc}
use Rattle.rules.specs.State.{down}
use Rattle.rules.specs.Memory.{Machine, run}
use Rattle.rules.specs.Figure.{value}
use Rattle.rules.proofs.Tests.{by_both}

-- R i m m': with i components left, m and m' stand for each other
pub record Alike {M N : Type 0} (K : Machine M) (L : Machine N) (R : ℕ → M → N → Type 0) : Type 0 where
  pub works : (i : ℕ) (m : M) (m' : N) → R (suc i) m m' → R i (K.worked (suc i) m) (L.worked (suc i) m')
  pub fails : (i : ℕ) (m : M) (m' : N) → R (suc i) m m' → R i (K.failed (suc i) m) (L.failed (suc i) m')
  pub last : (m : M) (m' : N) → R 0 m m' → K.ends m ≡ L.ends m'

module _ {M N : Type 0} {K : Machine M} {L : Machine N} {R : ℕ → M → N → Type 0} (A : Alike K L R) where
  pub same-run : (i : ℕ) (m : M) (m' : N) (w : ℕ) → R i m m' → run K i m w ≡ run L i m' w
  unfolding run
  same-run zero m m' w r = A.last m m' r
  same-run (suc i) m m' w r = same-run i _ _ w (by_both (R i) (down i w) _ _ _ _ (λ e. A.fails i m m' r) (λ e. A.works i m m' r))

  pub same-value : (up : Bool) (u : ℕ) (P : ℕ → ℕ) (i : ℕ) (m : M) (m' : N) → R i m m' → value K up u P i m ≡ value L up u P i m'
  unfolding value
  same-value up u P zero m m' r = rw (A.last m m' r)
  same-value up u P (suc i) m m' r =
      rw (same-value up u P i _ _ (A.works i m m' r), same-value up u P i _ _ (A.fails i m m' r))

-- two memories that read alike over n components
pub record Same {M N : Type 0} (K : Machine M) (m : M) (L : Machine N) (m' : N) (n : ℕ) : Type 0 where
  pub runs : (w : ℕ) → run K n m w ≡ run L n m' w
  pub values : (up : Bool) (u : ℕ) (P : ℕ → ℕ) → value K up u P n m ≡ value L up u P n m'

pub alike_same : {M N : Type 0} {K : Machine M} {L : Machine N} {R : ℕ → M → N → Type 0} → Alike K L R → (n : ℕ) (m : M) (m' : N) → R n m m' → Same K m L m' n
alike_same A n m m' r = record { runs = λ w. same-run A n m m' w r; values = λ up u P. same-value A up u P n m m' r }

-- what two memories that read like a third have in common
pub same-third : {M N L : Type 0} {A : Machine M} {B : Machine N} {C : Machine L} {a : M} {b : N} {c : L} {n : ℕ} → Same A a C c n → Same B b C c n → Same A a B b n
same-third f g = record { runs = λ w. f.runs w ∙ sym (g.runs w); values = λ up u P. f.values up u P ∙ sym (g.values up u P) }
