-- Request 08: the unit of any version is at least 1 and at most 2^30. Assumes nothing.
use mathlib.Core.Bool.{Bool, true, false, cond}
use Prim.Native.Nat.{ℕ, ◌≤◌, ◌<◌}
use native.Mathlib.Omega.{arith}
use lib.Dec.{eqb}
use Rattle.rules.specs.State.{S, decimal, unit_of}

pub unit-some : (version : ℕ) → 0 < unit_of version
unfolding unit_of
unit-some version = go (eqb version 1)
  where
    go : (b : Bool) → 0 < cond b S decimal
    go true = omega arith
    go false = omega arith

pub unit-most : (version : ℕ) → unit_of version ≤ S
unfolding unit_of
unit-most version = go (eqb version 1)
  where
    go : (b : Bool) → cond b S decimal ≤ S
    go true = omega arith
    go false = omega arith
