-- Kinds 4 and 5: what is handed on where the values of a memory with no run are worked, and what the table then holds.
use Rattle.std.specs.Prelude.{◌≡◌, List, ℕ, suc, ◌+◌, ◌≤◌, ◌<◌, length}
use Rattle.rules.specs.Refusal.{most, cells}
use Rattle.memory.specs.declared.run.Run.{Run}
use Rattle.memory.specs.Run.{running}
use Rattle.places.specs.Cells.{Shelf, Kept, Workable, value_of}

-- a memory with no run, whose lead is not dead
pub record Free (k : ℕ) (m : Run) : Type 0 where
  pub none : m.run ≡ 0
  pub alive : m.lead < k

pub record Decidable (k : ℕ) (m : Run) (upto : ℕ) (t : List ℕ) : Type 0 where
  pub free : Free k m
  pub size : upto ≤ most
  pub room : cells ≤ length t

-- with so many components left the lead and a run of all of them come to k; the memory's value with fewer is known
pub record Falling (u k : ℕ) (m : Run) (upto : ℕ) (survival t : List ℕ) : Type 0 where
  pub free : Free k m
  pub some : 0 < upto
  pub size : upto ≤ length survival
  pub far : k ≤ upto + m.lead
  pub row : Shelf (value_of u (running k) survival m) t 0 upto
  pub list : Workable u survival t

pub record Fillable (u k : ℕ) (m : Run) (upto : ℕ) (survival t : List ℕ) : Type 0 where
  pub free : Free k m
  pub size : upto ≤ length survival
  pub list : Workable u survival t

pub record Filled (u k : ℕ) (m : Run) (upto : ℕ) (survival t₀ t : List ℕ) : Type 0 where
  pub row : Shelf (value_of u (running k) survival m) t 0 (suc upto)
  pub kept : Kept t₀ t

-- a rule in range: 1 <= k <= n
pub record Asked (u k : ℕ) (survival t : List ℕ) : Type 0 where
  pub some : 1 ≤ k
  pub fits : k ≤ length survival
  pub list : Workable u survival t
