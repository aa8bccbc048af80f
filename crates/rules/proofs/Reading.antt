-- How a reading is reasoned about: by the state of the next component, and that a dead memory never works. Assumes nothing.
use mathlib.Core.Path.{◌≡◌, sym, ◌∙◌}
use mathlib.Core.Logic.{◌↔◌}
use mathlib.Core.Bool.{true, false, false≢true}
use Prim.Native.Nat.{ℕ, suc, ◌<◌, ◌≤◌}
use lib.Dec.{ltb}
use borrow.Author.Tests.{ltb-true, ltb-false}
use Rattle.rules.specs.State.{down}
use Rattle.rules.specs.Memory.{run, Memory, live, dead, Row, moved, machine_of, below}
use Rattle.rules.proofs.Tests.{by-test}
use Rattle.rules.proofs.Dead.{row-run}

module _ {A : Type 0} (R : Row A) (w : ℕ) where
  -- a memory is as good as P says if it is so by the next component's state
  pub step : (i : ℕ) (m : Memory A) (P : Type 0)
      → (down i w ≡ true → (run (machine_of R) i (moved (R.failing (suc i)) m) w ≡ true) ↔ P)
      → (down i w ≡ false → (run (machine_of R) i (moved (R.working (suc i)) m) w ≡ true) ↔ P)
      → (run (machine_of R) (suc i) m w ≡ true) ↔ P
  unfolding run
  step i m P = by-test (λ x. (run (machine_of R) i x w ≡ true) ↔ P) (down i w) _ _

  pub gone : (i : ℕ) (P : Type 0) → (P → ⊥) → (run (machine_of R) i dead w ≡ true) ↔ P
  gone i P h = (λ t. absurd (false≢true (sym (row-run R i w) ∙ t)), λ p. absurd (h p))

  -- a memory that is dead from k on
  pub upto : (i c k : ℕ) (a : A) (P : Type 0) → (c < k → (run (machine_of R) i (live a) w ≡ true) ↔ P) → (k ≤ c → P → ⊥)
      → (run (machine_of R) i (below c k a) w ≡ true) ↔ P
  upto i c k a P small large =
      by-test (λ x. (run (machine_of R) i x w ≡ true) ↔ P) (ltb c k) (live a) dead
      (λ e. small (ltb-true _ _ e)) (λ e. gone i P (large (ltb-false _ _ e)))
