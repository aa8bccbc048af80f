-- A component's numbers for a whole row of values, and the share by which a row is worked.
use Rattle.std.specs.Prelude.{◌≡◌, ℕ, ◌+◌, ◌-◌, ◌*◌, ◌/◌, ◌^◌, ◌≤◌}
use Rattle.rules.specs.State.{failure}
use Rattle.units.specs.Step.{AnyUnit}
use Rattle.units.specs.Share.{Dealt, Share, share_parts}
use Rattle.units.specs.declared.odds.Odds.{Odds}

-- P and Q, and P's share
pub record Prepared (u : ℕ) (o : Odds) : Type 0 where
  pub unit : AnyUnit u
  pub survival : o.p.0 ≤ u
  pub rest : o.q.0 ≡ failure u o.p.0
  pub dealt : Dealt u o.p.0 o.share.0

-- two values within the unit
pub record Values (u works fails : ℕ) : Type 0 where
  pub left : works ≤ u
  pub right : fails ≤ u

-- how far two values are apart, and a unit more
abbrev pub apart : (u works fails : ℕ) → ℕ
apart u works fails = works + u - fails

-- the mix by P's share
abbrev pub mixed_shares : (u : ℕ) → Odds → (round works fails : ℕ) → ℕ
mixed_shares u o round works fails = (o.share.0 * apart u works fails + round) / share_parts + fails - o.p.0

-- what rounds up: all parts but 2^32, which is more than rounding adds to a share of both values and no more than a part of the unit has
abbrev pub round_up : ℕ
round_up = 2 ^ 62 - 2 ^ 32

-- two values within the unit, to be mixed by P's share
pub record Mixable (u : ℕ) (o : Odds) (round works fails : ℕ) : Type 0 where
  pub unit : AnyUnit u
  pub survival : o.p.0 ≤ u
  pub share : Share u o.p.0 o.share.0
  pub values : Values u works fails
  pub few : round ≤ round_up
