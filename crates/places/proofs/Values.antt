-- The values of memories, as places hold them: within the unit, 0 where dead, and a component more by one rounded step of both ends. Assumes nothing.
use mathlib.Core.Path.{◌≡◌, refl}
use mathlib.Core.Bool.{Bool, true, false}
use mathlib.Core.List.{List}
use Prim.Native.Nat.{ℕ, suc, ◌≤◌, ◌<◌}
use lib.ListN.{get_or}
use Rattle.rules.specs.State.{number_of, failure}
use Rattle.rules.specs.Memory.{Machine}
use Rattle.rules.specs.Figure.{rounded, mixed, value}
use Rattle.rules.proofs.Conditions.{below-unit}
use Rattle.rules.proofs.Dead.{Dead, dead-value}
use Rattle.rules.proofs.Enclosure.{value-le}
use Rattle.places.specs.declared.Ends.{Ends}
use Rattle.places.specs.Cells.{one, Both, Within, Steady, value_of}
use Rattle.places.proofs.Cells.{both_at, both-as}

module _ {u : ℕ} (some : 0 < u) {M : Type 0} (K : Machine M) (survival : List ℕ) where
  pub valued-dead : {D : M → Type 0} → Dead K D → (i : ℕ) (m : M) → D m → (up : Bool) → value_of u K survival m up i ≡ 0
  valued-dead gone i m d up = dead-value gone up u (number_of survival) some i m d

  module _ (units : (i : ℕ) → get_or survival i 0 ≤ u) where
    pub valued-le : (i : ℕ) (m : M) (up : Bool) → value_of u K survival m up i ≤ u
    valued-le i m up = value-le K u (number_of survival) some up i (λ k l. below-unit survival units k) m

    pub valued-within : (i : ℕ) (m : M) {e : Ends} → Both (λ up. value_of u K survival m up i) e → Within u e
    valued-within i m b = record { low = rw b.low (valued-le i m false); high = rw b.high (valued-le i m true) }

-- a survival number as it was read, with its failure number
pub record Chance (u : ℕ) (survival : List ℕ) (i p q : ℕ) : Type 0 where
  pub read : p ≡ get_or survival i 0
  pub rest : q ≡ failure u p

-- one component more: what follows where it works, and where it fails
module _ {u : ℕ} (some : 0 < u) {M N : Type 0} (K : Machine M) (L : Machine N) (survival : List ℕ) (units : (i : ℕ) → get_or survival i 0 ≤ u) where
  module _ (i p q : ℕ) (is : Chance u survival i p q) (m : M) (m' : N) {a b : Ends} (works : Both (λ up. value_of u K survival m up i) a) (fails : Both (λ up. value_of u L survival m' up i) b) where
    pub step-steady : Steady u p q a b
    step-steady = record {
      survival = rw is.read (units i);
      rest = is.rest;
      left = valued-within some K survival units i m works;
      right = valued-within some L survival units i m' fails;
    }

    pub step-mixed : {r : Ends} → Both (λ up. rounded up u (mixed u p (one up a) (one up b))) r
        → Both (λ up. rounded up u (mixed u (get_or survival i 0) (value_of u K survival m up i) (value_of u L survival m' up i))) r
    step-mixed = both-as (λ up. rw (is.read, both_at works up, both_at fails up))

-- the definition's own step, of a memory whose next ones are known
module _ (u : ℕ) {M : Type 0} (K : Machine M) (survival : List ℕ) (i : ℕ) (m : M) where
  pub valued-suc : (up : Bool) → value_of u K survival m up (suc i)
      ≡ rounded up u (mixed u (get_or survival i 0) (value_of u K survival (K.worked (suc i) m) up i) (value_of u K survival (K.failed (suc i) m) up i))
  unfolding value number_of
  valued-suc up = refl
