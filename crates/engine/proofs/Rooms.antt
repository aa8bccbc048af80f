-- The figure of each room is the rule's: document 01's row of the kind. What a room is handed follows from the rule's range. Assumes nothing.
use mathlib.Core.Path.{◌≡◌, sym, ap, subst}
use mathlib.Core.Bool.{Bool}
use mathlib.Core.List.{List}
use Prim.Native.Nat.{ℕ, ◌≤◌}
use native.Mathlib.Omega.{arith}
use lib.ListN.{length}
use Rattle.rules.specs.declared.Rule.{Rule}
use Rattle.rules.specs.State.{rule_of, beside_of}
use Rattle.rules.specs.Figure.{figure}
use Rattle.rules.specs.Accepted.{One, Two, Ratable}
use Rattle.rules.proofs.Accepted.{range8, beside-weights}
use Rattle.units.specs.Step.{whole}
use Rattle.units.proofs.Laws.{whole-some, whole-most}
use Rattle.places.specs.declared.Ends.{Ends}
use Rattle.places.specs.Cells.{Both, Workable}
use Rattle.places.proofs.Cells.{both-as}
use Rattle.rows.specs.Level as rows
use Rattle.runs.specs.Runs as runs
use Rattle.gaps.specs.Gaps as gaps
use Rattle.windows.specs.Asked as windows

-- kinds 1 to 3 read the weights if any
pub beside-early : (rule : Rule) (weights more : List ℕ) → rule.kind ≤ 3 → beside_of rule weights more ≡ weights
beside-early rule weights more early = beside-weights rule weights more (λ eight. omega arith)

module _ (decimal : Bool) {rule : Rule} {survival beside t : List ℕ} (y : Ratable (whole decimal) rule survival beside t) where
  workable : Workable (whole decimal) survival t
  workable = record { whole = whole-some decimal; narrow = whole-most decimal; size = y.accepted.size_high; units = y.units; room = y.room }

  pub in_rows : {weights : List ℕ} → beside ≡ weights → rule.kind ≤ 3 → rows.Asked (whole decimal) rule survival weights t
  in_rows e early = record { accepted = rw e at y.accepted; sums = early; list = workable }

  pub in-runs : One rule.first (length survival) rule.second → runs.Asked (whole decimal) rule.first survival t
  in-runs h = record { some = h.low; fits = h.high; list = workable }

  pub in-gaps : {most : ℕ} → Two rule.first rule.second most → gaps.Asked (whole decimal) rule.second survival t
  in-gaps h = record { two = h.low; list = workable }

  pub in-windows : {more : List ℕ} → beside ≡ more → rule.kind ≡ 8 → windows.Asked (whole decimal) rule.first rule.second more survival t
  in-windows e eight = record { range = rw e at (range8 y.accepted eight); list = workable }

-- a room's figure is the rule's where the table has the room's row at the rule's kind
pub room-is : (u : ℕ) (rule : Rule) (survival beside : List ℕ) (kind : ℕ) {x : Bool → ℕ} → rule.kind ≡ kind
    → ((up : Bool) → x up ≡ figure up u (rule_of kind rule.first rule.second) survival beside) → {e : Ends} → Both x e → Both (λ up. figure up u rule survival beside) e
room-is u rule survival beside kind {x} k is =
    both-as (λ up. subst (λ kind. x up ≡ figure up u (rule_of kind rule.first rule.second) survival beside) (sym k) (is up))

-- and the list that the room reads is the one beside the rule
pub reads-is : (u : ℕ) (rule : Rule) (survival : List ℕ) {beside read : List ℕ} → beside ≡ read → {e : Ends} → Both (λ up. figure up u rule survival read) e
    → Both (λ up. figure up u rule survival beside) e
reads-is u rule survival same = both-as (λ up. ap (figure up u rule survival) (sym same))
