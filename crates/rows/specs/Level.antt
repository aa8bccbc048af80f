-- What kinds 1 to 3 are asked with. A level: what two rows of the lent table hold with so many components left.
use Rattle.std.specs.Prelude.{ℕ, ◌+◌, ◌≤◌, min, ◌≡◌, Bool, cond, List, length}
use Rattle.rules.specs.declared.Rule.{Rule}
use Rattle.rules.specs.Accepted.{Accepted}
use Rattle.rules.specs.Refusal.{cells}
use Rattle.memory.specs.Sum.{sum}
use Rattle.places.specs.Cells.{Side, Kept, Shelf, Workable, value_of}
use Rattle.places.specs.Map.{far}
use Rattle.rows.specs.declared.Level.{Level}
use Rattle.rows.specs.Kinds.{Sums, limit_of, gap_of, load_of, end_of, summed}

-- an accepted rule of a kind whose memory is a sum, over a list that can be worked
pub record Asked (u : ℕ) (rule : Rule) (survival weights t : List ℕ) : Type 0 where
  pub accepted : Accepted rule (length survival) weights
  pub sums : Sums rule
  pub list : Workable u survival t

-- the value of each sum with i components left
abbrev pub sums_value : (u : ℕ) → Rule → (survival weights : List ℕ) (i : ℕ) (up : Bool) (k : ℕ) → ℕ
sums_value u rule survival weights i up k = value_of u (summed rule weights) survival (sum k) up i

-- and with none left
abbrev pub ends_value : (u : ℕ) → Rule → (up : Bool) (k : ℕ) → ℕ
ends_value u rule up k = cond (end_of rule (sum k)) u 0

-- so many places from off, of a table long enough
pub record Span (off count : ℕ) (t : List ℕ) : Type 0 where
  pub low : off + count ≤ far
  pub room : cells ≤ length t

-- the values with `left` components left stand at `from`, as far as sums can come; behind the limit both sides hold 0
pub record Levelled (u : ℕ) (rule : Rule) (survival weights : List ℕ) (s : Level) (t : List ℕ) : Type 0 where
  pub asked : Asked u rule survival weights t
  pub side : Side s.from
  pub some : s.left ≤ length survival
  pub reach : s.reach + load_of rule weights s.left ≡ 1 + load_of rule weights (length survival)
  pub row : Shelf (sums_value u rule survival weights s.left) t s.from (min (limit_of rule) s.reach)
  pub behind : {side : ℕ} → Side side → Shelf (λ up k. 0) t (side + limit_of rule) (gap_of rule)

-- a level with so many components left
pub record Raised (u : ℕ) (rule : Rule) (survival weights : List ℕ) (left : ℕ) (t₀ t : List ℕ) (r : Level) : Type 0 where
  pub level : Levelled u rule survival weights r t
  pub is : r.left ≡ left
  pub kept : Kept t₀ t
