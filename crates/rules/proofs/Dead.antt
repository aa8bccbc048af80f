-- A dead memory never works and its value is 0: of memories that no step leaves and that do not work at the end, no reading ends working and every
-- value is 0. By induction over the components left; a row's `dead` is such a memory. Assumes nothing.
use mathlib.Core.Path.{◌≡◌, refl}
use mathlib.Core.Bool.{Bool, false}
use Prim.Native.Nat.{ℕ, zero, suc, ◌<◌}
use Rattle.rules.specs.State.{down}
use Rattle.rules.specs.Memory.{Machine, run, dead, Row, moved, ended, machine_of}
use Rattle.rules.specs.Figure.{value}
use Rattle.rules.proofs.Tests.{by-test}
use Rattle.rules.proofs.Rounding.{nothing}

pub record Dead {M : Type 0} (K : Machine M) (D : M → Type 0) : Type 0 where
  pub works : (i : ℕ) {m : M} → D m → D (K.worked i m)
  pub fails : (i : ℕ) {m : M} → D m → D (K.failed i m)
  pub last : {m : M} → D m → K.ends m ≡ false

module _ {M : Type 0} {K : Machine M} {D : M → Type 0} (gone : Dead K D) where
  pub dead-run : (i : ℕ) (m : M) (w : ℕ) → D m → run K i m w ≡ false
  unfolding run
  dead-run zero m w d = gone.last d
  dead-run (suc i) m w d = dead-run i _ w (by-test D (down i w) _ _ (λ _. gone.fails (suc i) d) (λ _. gone.works (suc i) d))

  pub dead-value : (up : Bool) (u : ℕ) (P : ℕ → ℕ) → 0 < u → (i : ℕ) (m : M) → D m → value K up u P i m ≡ 0
  unfolding value
  dead-value up u P pos zero m d = rw (gone.last d)
  dead-value up u P pos (suc i) m d =
      rw (dead-value up u P pos i _ (gone.works (suc i) d), dead-value up u P pos i _ (gone.fails (suc i) d)) (nothing up u (P (suc i)) pos)

-- a row's dead memory
row-gone : {A : Type 0} (R : Row A) → Dead (machine_of R) (λ m. m ≡ dead)
unfolding moved ended
row-gone R = record { works = λ i e. rw e; fails = λ i e. rw e; last = λ e. rw e }

pub row-run : {A : Type 0} (R : Row A) (i w : ℕ) → run (machine_of R) i dead w ≡ false
row-run R i w = dead-run (row-gone R) i dead w refl

pub row-value : {A : Type 0} (R : Row A) (up : Bool) (u : ℕ) (P : ℕ → ℕ) → 0 < u → (i : ℕ) → value (machine_of R) up u P i dead ≡ 0
row-value R up u P pos i = dead-value (row-gone R) up u P pos i dead refl
