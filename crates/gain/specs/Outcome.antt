-- What the gain's call answers and leaves of the working table, and what it leaves where the table is handed back clear.
use Rattle.std.specs.Prelude.{ℕ, ◌≡◌, Bool, cond, not, List, eqb}
use Rattle.rules.specs.declared.Spare.{Spare}
use Rattle.rules.specs.declared.Worth.{Worth}
use Rattle.rules.specs.declared.Worth.TheVariants.{Ends}
use Rattle.rules.specs.Below.{within}
use Rattle.rules.specs.Asked.{Asked}
use Rattle.rules.specs.Gain.{gain_lower, gain_upper, gain_refusal}
use Rattle.places.specs.Cells.{Kept}
use Rattle.swaps.specs.Compared.{Compared, Returned}

-- 4 where the spare's number is above the unit and no refusal that comes before 4 applies: none does, or 5, 6 or 7
abbrev pub with_spare : (above : Bool) (own : ℕ) → ℕ
with_spare above own = cond above (cond (eqb own 0) 4 (cond (not (within 5 own 7)) own 4)) own

-- the gain of a spare that is not refused, in a table of which no more is known than what lies past its cells
pub record Found (q : Asked) (w : Spare) (t₀ t : List ℕ) (r : Worth) : Type 0 where
  pub ends : r ≡ Ends (gain_lower q w.fan w.p) (gain_upper q w.fan w.p)
  pub kept : Kept t₀ t

-- the outcome of the gain of a spare: the table after a refusal as it was, after an answer as it was worked
pub record Answered (q : Asked) (w : Spare) (t₀ t : List ℕ) (r : Worth) : Type 0 where
  pub outcome : Compared (gain_refusal q w.fan w.p t₀) (gain_lower q w.fan w.p) (gain_upper q w.fan w.p) t₀ t r

-- the outcome with the table handed back clear
pub record Gained (q : Asked) (w : Spare) (t₀ t : List ℕ) (r : Worth) : Type 0 where
  pub outcome : Returned (gain_refusal q w.fan w.p t₀) (gain_lower q w.fan w.p) (gain_upper q w.fan w.p) t₀ t r
