-- Kinds 6 and 7: what the table holds of memories that owe as many as are left and of one that owes nothing, and what each function is handed.
use Rattle.std.specs.Prelude.{◌≡◌, Bool, cond, List, ℕ, suc, ◌+◌, ◌-◌, ◌≤◌, ◌<◌, min, length, get_or}
use Rattle.rules.specs.State.{failure}
use Rattle.rules.specs.Figure.{rounded, mixed}
use Rattle.units.specs.Share.{Dealt}
use Rattle.memory.specs.declared.owed.Owed.{Owed}
use Rattle.memory.specs.Owed.{owed, owing}
use Rattle.places.specs.declared.Ends.{Ends}
use Rattle.places.specs.Cells.{Both, Shelf, Kept, Within, Workable, cell_at, one, value_of}
use Rattle.places.specs.Map.{half, shares}
use Rattle.gaps.specs.declared.Known.{Known}

-- a rule in range
pub record Asked (u r : ℕ) (survival t : List ℕ) : Type 0 where
  pub two : 2 ≤ r
  pub list : Workable u survival t

-- P's share of each component stands where the low end of a value does, and Q's where the high end does
pub record Shared (u : ℕ) (survival t : List ℕ) : Type 0 where
  pub row : (up : Bool) (i : ℕ) → i < length survival
      → Dealt u (cond up (failure u (get_or survival i 0)) (get_or survival i 0)) (cell_at t up (shares + i))

-- the memory at hand, with its value, and one before it that owes one more
pub record Due (u r : ℕ) (hand : Owed) (i : ℕ) (survival : List ℕ) (ends : Ends) (t : List ℕ) : Type 0 where
  pub alive : hand.owed + 1 < r
  pub size : i < length survival
  pub list : Workable u survival t
  pub shared : Shared u survival t
  pub value : Both (λ up. value_of u (owing r) survival hand up i) ends

-- components that must all work, before the memory m
pub record Owing (u r : ℕ) (m : Owed) (from upto : ℕ) (survival : List ℕ) (end : Ends) (t : List ℕ) : Type 0 where
  pub order : from ≤ upto
  pub size : upto ≤ length survival
  pub alive : m.owed + (upto - from) < r
  pub list : Workable u survival t
  pub shared : Shared u survival t
  pub value : Both (λ up. value_of u (owing r) survival m up from) end

-- the value of a memory that owes as many as are left
abbrev pub settled_value : (u r : ℕ) (survival : List ℕ) → Bool → ℕ → ℕ
settled_value u r survival up i = value_of u (owing r) survival (owed 0 i) up i

-- these, as far as a debt goes back, and the shares
pub record Settled (u r : ℕ) (survival t : List ℕ) : Type 0 where
  pub shared : Shared u survival t
  pub row : Shelf (settled_value u r survival) t half (min (length survival) (r - 1) + 1)

-- the memory that owes nothing past x clean ones, known with up to `left` components left
pub record Holds (u r x left : ℕ) (survival t : List ℕ) : Type 0 where
  pub asked : Asked u r survival t
  pub settled : Settled u r survival t
  pub most : left ≤ length survival
  pub row : Shelf (value_of u (owing r) survival (owed x 0)) t 0 (suc left)

-- one that has just met a failed component with i left, and what it comes to known
pub record Passable (u r : ℕ) (m : Owed) (i : ℕ) (survival t : List ℕ) : Type 0 where
  pub due : m.owed ≡ r - 1
  pub size : i < length survival
  pub holds : Holds u r m.clean (i - m.owed) survival t

pub record Begun (u r : ℕ) (m : Owed) (survival t : List ℕ) : Type 0 where
  pub none : m.owed ≡ 0
  pub asked : Asked u r survival t
  pub settled : Settled u r survival t

pub record Reachable (u r : ℕ) (s : Known) (upto : ℕ) (survival t : List ℕ) : Type 0 where
  pub none : s.free.owed ≡ 0
  pub holds : Holds u r s.free.clean s.left survival t
  pub order : s.left ≤ upto
  pub most : upto ≤ length survival

pub record Reached (u r x upto : ℕ) (survival t₀ t : List ℕ) (s : Known) : Type 0 where
  pub free : s.free ≡ owed x 0
  pub left : s.left ≡ upto
  pub holds : Holds u r x upto survival t
  pub kept : Kept t₀ t

-- the same as far as debts are cut short: either `upto` is reached, or the next debt is paid
pub record Onward (u r x upto : ℕ) (survival t₀ t : List ℕ) (s : Known) : Type 0 where
  pub free : s.free ≡ owed x 0
  pub most : s.left ≤ upto
  pub done : s.left < upto → r - 1 ≤ s.left
  pub holds : Holds u r x s.left survival t
  pub kept : Kept t₀ t

-- the same from where debts are paid
pub record Payable (u r : ℕ) (s : Known) (upto : ℕ) (survival t : List ℕ) : Type 0 where
  pub free : s.free ≡ owed s.free.clean 0
  pub holds : Holds u r s.free.clean s.left survival t
  pub order : s.left ≤ upto
  pub done : s.left < upto → r - 1 ≤ s.left
  pub most : upto ≤ length survival

pub record Bringable (u r : ℕ) (s : Known) (m : Owed) (i : ℕ) (survival t : List ℕ) : Type 0 where
  pub none : s.free.owed ≡ 0
  pub holds : Holds u r s.free.clean s.left survival t
  pub due : m.owed ≡ r - 1
  pub order : s.left ≤ i - m.owed
  pub size : i < length survival

-- what a step of the memory that owes nothing is handed
pub record Stepping (u : ℕ) (free : Owed) (i : ℕ) (survival : List ℕ) (works fails : Ends) (t : List ℕ) : Type 0 where
  pub none : free.owed ≡ 0
  pub size : i < length survival
  pub list : Workable u survival t
  pub works_small : Within u works
  pub fails_small : Within u fails

-- the ring's open clean ones, of the value `works` with i components left, and the memory that a failed one closes them with
pub record Closable (u r : ℕ) (m : Owed) (i : ℕ) (survival : List ℕ) (works : Ends) (t : List ℕ) : Type 0 where
  pub passable : Passable u r m i survival t
  pub works_small : Within u works

-- the rounded step of the two
abbrev pub closed_value : (u r : ℕ) (m : Owed) (i : ℕ) (survival : List ℕ) (works : Ends) → Bool → ℕ
closed_value u r m i survival works up = rounded up u (mixed u (get_or survival i 0) (one up works) (value_of u (owing r) survival m up i))
