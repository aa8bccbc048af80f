-- A memory whose number can say that it is dead: alive it moves and ends as it would by itself; dead it is dead for good. Assumes nothing.
use mathlib.Core.Path.{◌≡◌}
use mathlib.Core.Bool.{Bool, true, false}
use Prim.Native.Nat.{ℕ}
use Rattle.rules.specs.Memory.{Machine}
use Rattle.rules.proofs.Dead.{Dead}
use Rattle.memory.specs.Living.{living}

module _ {M : Type 0} (dead : M → Bool) (K : Machine M) where
  module _ (m : M) (alive : dead m ≡ false) where
    pub living-works : (i : ℕ) → (living dead K).worked i m ≡ K.worked i m
    living-works i = rw alive

    pub living-fails : (i : ℕ) → (living dead K).failed i m ≡ K.failed i m
    living-fails i = rw alive

    pub living-ends : (living dead K).ends m ≡ K.ends m
    living-ends = rw alive

  pub living-dead : Dead (living dead K) (λ m. dead m ≡ true)
  living-dead = record { works = λ i d. rw d d; fails = λ i d. rw d d; last = λ d. rw d }
