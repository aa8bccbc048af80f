-- What the worth's call answers and leaves of the working table, and what it leaves where the table is handed back clear.
use Rattle.std.specs.Prelude.{ℕ, ◌≡◌, List}
use Rattle.rules.specs.declared.Worth.{Worth}
use Rattle.rules.specs.declared.Worth.TheVariants.{Ends}
use Rattle.rules.specs.Asked.{Asked}
use Rattle.rules.specs.Worth.{lower_of, upper_of, worth_refusal}
use Rattle.places.specs.Cells.{Kept}
use Rattle.swaps.specs.Compared.{Compared, Returned}

-- the worth of a fan that is not refused, in a table of which no more is known than what lies past its cells
pub record Found (q : Asked) (fan : ℕ) (t₀ t : List ℕ) (r : Worth) : Type 0 where
  pub ends : r ≡ Ends (lower_of q fan) (upper_of q fan)
  pub kept : Kept t₀ t

-- the outcome of the worth of a fan: the table after a refusal as it was, after an answer as it was worked
pub record Answered (q : Asked) (fan : ℕ) (t₀ t : List ℕ) (r : Worth) : Type 0 where
  pub outcome : Compared (worth_refusal q fan t₀) (lower_of q fan) (upper_of q fan) t₀ t r

-- the outcome with the table handed back clear
pub record Weighed (q : Asked) (fan : ℕ) (t₀ t : List ℕ) (r : Worth) : Type 0 where
  pub outcome : Returned (worth_refusal q fan t₀) (lower_of q fan) (upper_of q fan) t₀ t r
