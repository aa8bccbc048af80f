-- A row worked out of the row on the other side: what is read is not written, so each place gets the rounded step of its sum's two next values, which
-- is the definition's own. Assumes nothing.
use Prim.Native.Nat.{ℕ, suc, ◌+◌, ◌-◌, ◌≤◌, ◌<◌}
use mathlib.Core.Path.{◌≡◌, sym, ◌∙◌}
use mathlib.Core.Bool.{Bool}
use mathlib.Core.List.{List}
use native.Mathlib.Omega.{arith}
use Rattle.rules.specs.declared.Rule.{Rule}
use Rattle.rules.specs.Memory.{Machine}
use Rattle.rules.specs.Figure.{rounded, mixed}
use Rattle.memory.specs.declared.sum.Sum.{Sum}
use Rattle.memory.specs.Sum.{sum}
use Rattle.places.specs.declared.Ends.{Ends}
use Rattle.places.specs.Cells.{Side, one, Both, cell_at, Place, Shelf, Written, Workable, Steady}
use Rattle.places.specs.Map.{half}
use Rattle.places.proofs.Cells.{both-as, room-kept, side-near, apart}
use Rattle.places.proofs.Values.{Chance, step-steady, step-mixed, valued-suc}
use Rattle.rows.specs.Kinds.{carry_of, summed}
use Rattle.rows.specs.Level.{sums_value}

-- what the component after `left` others takes a row up with: its numbers, how far it carries a sum, and how many sums are made
pub record Climb (u : ℕ) (rule : Rule) (survival weights : List ℕ) (left from : ℕ) (t : List ℕ) (p q carry width : ℕ) : Type 0 where
  pub list : Workable u survival t
  pub side : Side from
  pub chance : Chance u survival left p q
  pub is : carry ≡ carry_of rule weights (suc left)
  pub narrow : width + carry ≤ half
  pub row : Shelf (sums_value u rule survival weights left) t from (width + carry)

module _ {u : ℕ} {rule : Rule} {survival weights t₀ t : List ℕ} {left from p q carry width m : ℕ}
    (y : Climb u rule survival weights left from t₀ p q carry width) (l : m < width)
    (w : Written (sums_value u rule survival weights (suc left)) m (half - from) t₀ t) where
  stands : (k : ℕ) → k < width + carry → (up : Bool) → cell_at t up (from + k) ≡ sums_value u rule survival weights left up k
  stands k h up =
      let near = side-near y.side in
      let narrow = y.narrow in
      w.other up (from + k) (omega arith) (apart y.side (omega arith) (omega arith)) ∙ y.row.is up k h

  pub read-place : (k : ℕ) → k < width + carry → Place (from + k) t
  read-place k h = record { low = omega (arith, side-near y.side, y.narrow); room = room-kept w.kept y.list.room }

  pub write-place : Place (half - from + m) t
  write-place = record { low = omega (arith, y.narrow); room = room-kept w.kept y.list.room }

  module _ {a b : Ends} (works : Both (λ up. cell_at t up (from + m)) a) (fails : Both (λ up. cell_at t up (from + (m + carry))) b) where
    abbrev K : Machine Sum
    K = summed rule weights

    works-is : Both (λ up. sums_value u rule survival weights left up m) a
    works-is = both-as (stands m (omega arith)) works

    fails-is : Both (λ up. sums_value u rule survival weights left up (m + carry)) b
    fails-is = both-as (stands (m + carry) (omega arith)) fails

    pub climb-steady : Steady u p q a b
    climb-steady = step-steady y.list.whole K K survival y.list.units left p q y.chance (sum m) (sum (m + carry)) works-is fails-is

    pub climb-made : {r : Ends} → Both (λ up. rounded up u (mixed u p (one up a) (one up b))) r → Both (λ up. sums_value u rule survival weights (suc left) up m) r
    climb-made b =
        both-as (λ up. rw y.is (sym (valued-suc u K survival left (sum m) up)))
        (step-mixed y.list.whole K K survival y.list.units left p q y.chance (sum m) (sum (m + carry)) works-is fails-is b)
