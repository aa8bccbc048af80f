-- The units, and what the rounded step is handed: a survival number with its own failure number, and two values within the unit.
use Rattle.std.specs.Prelude.{◌≡◌, Bool, cond, ℕ, ◌≤◌}
use Rattle.rules.specs.State.{S, decimal, failure}

-- the unit that a file's numbers are parts of
unfoldable pub whole : (isDecimal : Bool) → ℕ
whole isDecimal = cond isDecimal decimal S

-- Document 02, request 08: "any unit from 1 to 2^30"
pub record AnyUnit (u : ℕ) : Type 0 where
  pub some : 1 ≤ u
  pub most : u ≤ S

pub record Parts (u p q works fails : ℕ) : Type 0 where
  pub unit : AnyUnit u
  pub survival : p ≤ u
  pub rest : q ≡ failure u p
  pub left : works ≤ u
  pub right : fails ≤ u
