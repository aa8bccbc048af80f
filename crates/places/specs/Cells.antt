-- The lent table's places: what stands at each, and what a step of both ends is handed.
use Rattle.std.specs.Prelude.{ℕ, ◌+◌, ◌*◌, ◌<◌, ◌≤◌, ◌≡◌, Bool, true, false, cond, ◌⊎◌, List, get_or, length, drop}
use Rattle.rules.specs.State.{S, number_of, failure}
use Rattle.rules.specs.Memory.{Machine}
use Rattle.rules.specs.Figure.{value}
use Rattle.rules.specs.Refusal.{most, cells}
use Rattle.units.specs.declared.debt.Shares.{Shares}
use Rattle.units.specs.Debt.{Shared}
use Rattle.places.specs.declared.Ends.{Ends}
use Rattle.places.specs.Map.{far, half}

-- one end of a value
abbrev pub one : Bool → Ends → ℕ
one up e = cond up e.high e.low

-- both ends of a value
pub record Both (f : Bool → ℕ) (r : Ends) : Type 0 where
  pub low : r.low ≡ f false
  pub high : r.high ≡ f true

-- a row of places stands on one of two sides
abbrev pub Side : ℕ → Type 0
Side from = (from ≡ 0) ⊎ (from ≡ half)

-- where an end of a value stands
abbrev pub cell_of : Bool → ℕ → ℕ
cell_of up at = cond up (far + at) at

-- what stands there
abbrev pub cell_at : List ℕ → Bool → ℕ → ℕ
cell_at t up at = get_or t (cell_of up at) 0

-- a table long enough, and a cell of it that holds a low end
pub record Place (at : ℕ) (t : List ℕ) : Type 0 where
  pub low : at < far
  pub room : cells ≤ length t

-- the table's length, and its cells past the first 7,800, are as they were
pub record Kept (t₀ t : List ℕ) : Type 0 where
  pub long : length t ≡ length t₀
  pub rest : drop cells t ≡ drop cells t₀

-- a value written at one place, and every other place, and every cell behind the places, as it was
pub record Put (at : ℕ) (e : Ends) (t₀ t : List ℕ) : Type 0 where
  pub here : (up : Bool) → cell_at t up at ≡ one up e
  pub other : (up : Bool) (k : ℕ) → k < far → (k ≡ at → ⊥) → cell_at t up k ≡ cell_at t₀ up k
  pub behind : (c : ℕ) → 2 * far ≤ c → get_or t c 0 ≡ get_or t₀ c 0
  pub kept : Kept t₀ t

-- the n places from off hold f 0, f 1, ..
pub record Shelf (f : Bool → ℕ → ℕ) (t : List ℕ) (off n : ℕ) : Type 0 where
  pub is : (up : Bool) (k : ℕ) → k < n → cell_at t up (off + k) ≡ f up k

-- the n places from off now hold f 0, f 1, .., and every other place is as it was
pub record Written (f : Bool → ℕ → ℕ) (n off : ℕ) (t₀ t : List ℕ) : Type 0 where
  pub row : Shelf f t off n
  pub other : (up : Bool) (k : ℕ) → k < far → (k < off) ⊎ (off + n ≤ k) → cell_at t up k ≡ cell_at t₀ up k
  pub kept : Kept t₀ t

-- the value of a memory with i components left, in parts of the unit u
abbrev pub value_of : {M : Type 0} → (u : ℕ) → Machine M → (survival : List ℕ) → M → Bool → ℕ → ℕ
value_of u K survival m up i = value K up u (number_of survival) i m

-- both ends of a value within the unit
pub record Within (u : ℕ) (e : Ends) : Type 0 where
  pub low : e.low ≤ u
  pub high : e.high ≤ u

-- a unit, a list of numbers within it, and a table to work in
pub record Workable (u : ℕ) (survival t : List ℕ) : Type 0 where
  pub whole : 0 < u
  pub narrow : u ≤ S
  pub size : length survival ≤ most
  pub units : (i : ℕ) → get_or survival i 0 ≤ u
  pub room : cells ≤ length t

-- what a rounded step of both ends is handed
pub record Steady (u p q : ℕ) (works fails : Ends) : Type 0 where
  pub survival : p ≤ u
  pub rest : q ≡ failure u p
  pub left : Within u works
  pub right : Within u fails

-- a component's shares, as a place holds them
abbrev pub shares_at : Shares → Ends
shares_at s = record { low = s.p.0; high = s.q.0 }

-- what a rounded step of both ends is handed where the component must work
pub record MustWork (u p q : ℕ) (s : Shares) (works : Ends) : Type 0 where
  pub survival : p ≤ u
  pub rest : q ≡ failure u p
  pub shared : Shared u p s
  pub left : Within u works
