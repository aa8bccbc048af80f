-- Reads one after another: what they have taken so far, in a buffer that is being filled or through one that they are counted by. Assumes nothing.
use mathlib.Core.Path.{◌≡◌}
use mathlib.Core.Bool.{true}
use Prim.Native.Nat.{ℕ, ◌^◌, ◌≤◌, ◌<◌}
use Rattle.shell.specs.declared.taking.Taken.{Taken}
use Rattle.shell.specs.Taken.{goes_on}

-- a buffer of so many bytes being filled
pub record Filling (most size : ℕ) (t : Taken) (filled : ℕ) : Type 0 where
  pub same : t.count ≡ filled
  pub within : filled ≤ most
  pub kept : size ≡ most
  pub going : goes_on t ≡ true

-- bytes being counted, through a buffer of 4,096
pub record Counting (size : ℕ) (t : Taken) (count : ℕ) : Type 0 where
  pub same : t.count ≡ count
  pub few : count < 2 ^ 63
  pub room : size ≡ 4096
  pub going : goes_on t ≡ true
