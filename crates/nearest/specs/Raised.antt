-- What the digits of a nearest double are worked out from: a number of at least the unit and less than twice as much, and a power of two.
use Rattle.std.specs.Prelude.{◌≡◌, ℕ, ◌*◌, ◌^◌, ◌≤◌, ◌<◌}
use Rattle.rules.specs.State.{S}
use Rattle.nearest.specs.declared.Raised.{Raised}

-- a fraction of a unit from 0 to 1; the unit is any from 1 to 2^30
pub record Within (unit x : ℕ) : Type 0 where
  pub some : 0 < unit
  pub most : unit ≤ S
  pub part : x ≤ unit

-- from 1 on and less than 2
pub record Scaled (unit near : ℕ) : Type 0 where
  pub some : 0 < unit
  pub most : unit ≤ S
  pub least : unit ≤ near
  pub less : near < 2 * unit

-- x / unit is near / unit over a power of two
pub record Raises (unit x : ℕ) (r : Raised) : Type 0 where
  pub field : r.field ≤ 1022
  pub scaled : Scaled unit r.near
  pub same : r.near * 2 ^ r.field ≡ x * 2 ^ 1022
