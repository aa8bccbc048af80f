-- The shares of the components' numbers as the table holds them: written one component at a time, and left alone by what is written elsewhere. Assumes nothing.
use mathlib.Core.Bool.{Bool, cond}
use mathlib.Core.Logic.{inr}
use mathlib.Core.List.{List}
use Prim.Native.Nat.{ℕ, ◌+◌, ◌≤◌, ◌<◌}
use native.Mathlib.Omega.{arith}
use lib.ListN.{length, get_or}
use Rattle.rules.specs.State.{failure}
use Rattle.rules.specs.Refusal.{most}
use Rattle.units.specs.Share.{Dealt}
use Rattle.places.specs.declared.Ends.{Ends}
use Rattle.places.specs.Cells.{Kept, Put, Written, cell_at}
use Rattle.places.specs.Map.{half, shares}
use Rattle.gaps.specs.Gaps.{Shared}

-- a component's P or Q
abbrev pub number_at : (u : ℕ) (survival : List ℕ) → Bool → ℕ → ℕ
number_at u survival up i = cond up (failure u (get_or survival i 0)) (get_or survival i 0)

-- the first n components' shares, in a table that is kept but for its places
pub record SharedTo (u n : ℕ) (survival t₀ t : List ℕ) : Type 0 where
  pub is : (up : Bool) (k : ℕ) → k < n → Dealt u (number_at u survival up k) (cell_at t up (shares + k))
  pub kept : Kept t₀ t

-- what is written elsewhere
pub shared-put : {u : ℕ} {survival t t' : List ℕ} {at : ℕ} {e : Ends} → Put at e t t' → at < shares → length survival ≤ most → Shared u survival t → Shared u survival t'
shared-put p low small s = record { row = λ up k l. rw (p.other up (shares + k) (omega arith) (λ q. omega arith)) (s.row up k l) }

pub shared-written : {u n : ℕ} {survival t t' : List ℕ} {f : Bool → ℕ → ℕ} → Written f n half t t' → half + n ≤ shares → length survival ≤ most → Shared u survival t → Shared u survival t'
shared-written w few small s = record { row = λ up k l. rw (w.other up (shares + k) (omega arith) (inr (omega arith))) (s.row up k l) }
