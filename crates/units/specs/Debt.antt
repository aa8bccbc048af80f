-- A component's numbers where it must work, and the shares of both.
use Rattle.std.specs.Prelude.{◌≡◌, ℕ, ◌≤◌}
use Rattle.rules.specs.State.{failure}
use Rattle.units.specs.Step.{AnyUnit}
use Rattle.units.specs.Share.{Dealt}
use Rattle.units.specs.declared.debt.Shares.{Shares}

pub record Numbers (u p q : ℕ) : Type 0 where
  pub unit : AnyUnit u
  pub survival : p ≤ u
  pub rest : q ≡ failure u p

pub record Shared (u p : ℕ) (s : Shares) : Type 0 where
  pub of_p : Dealt u p s.p.0
  pub of_q : Dealt u (failure u p) s.q.0
