-- Counts read from a memory split at the top component, for every row of document 01's table; the laws of the kinds go by these alone. Assumes nothing.
use mathlib.Core.Path.{◌≡◌, ◌∙◌}
use mathlib.Core.Bool.{cond}
use Prim.Native.Nat.{ℕ, zero, suc, ◌+◌, ◌^◌, ◌≤◌, ◌<◌}
use native.Mathlib.Omega.{arith}
use Rattle.rules.specs.Memory.{Row, Memory, dead, moved, ended, run, machine_of}
use Rattle.rules.proofs.Words.{count-base, count-above, count-le}
use Rattle.rules.proofs.Split.{count-zero, count-suc}
use Rattle.pascal.specs.Ways.{ways_of}
use Rattle.pascal.proofs.Triangle.{count-fit}
use Rattle.bins.specs.From.{from}

module _ {A : Type 0} (R : Row A) where
  pub from_end : (m : Memory A) → from R m 0 0 ≡ cond (ended R.end m) 1 0
  unfolding from run
  from_end m = count-base (run (machine_of R) 0 m)

  pub from-above : (m : Memory A) (i j : ℕ) → i < j → from R m i j ≡ 0
  unfolding from
  from-above m i j l = count-above (run (machine_of R) i m) i j l

  pub from_zero : (m : Memory A) (i : ℕ) → from R m (suc i) 0 ≡ from R (moved (R.working (suc i)) m) i 0
  unfolding from
  from_zero m i = count-zero (machine_of R) i m

  pub from_suc : (m : Memory A) (i j : ℕ)
      → from R m (suc i) (suc j) ≡ from R (moved (R.working (suc i)) m) i (suc j) + from R (moved (R.failing (suc i)) m) i j
  unfolding from
  from_suc m i j = count-suc (machine_of R) i m j

  pub from-dead : (i j : ℕ) → from R dead i j ≡ 0
  unfolding moved ended
  from-dead zero zero = from_end dead
  from-dead zero (suc j) = from-above dead 0 (suc j) (omega arith)
  from-dead (suc i) zero = from_zero dead i ∙ from-dead i 0
  from-dead (suc i) (suc j) = from_suc dead i j ∙ omega (arith, from-dead i (suc j), from-dead i j)

  -- no more than Pascal's, and so 64 bits are enough
  pub from_le : (m : Memory A) (i j : ℕ) → from R m i j ≤ ways_of i j
  unfolding from
  from_le m i j = count-le (run (machine_of R) i m) i j

  pub from-fits : (m : Memory A) (i j : ℕ) → i ≤ 64 → from R m i j < 2 ^ 64
  unfolding from
  from-fits m i j l = count-fit (run (machine_of R) i m) i j l
