-- A copy of the numbers that a list has from one place up to another, each in its own place.
use Rattle.std.specs.Prelude.{◌≡◌, List, ℕ, ◌≤◌, ◌<◌, length, get_or}
use Rattle.rules.specs.Refusal.{most}

pub record Copied (from upto : ℕ) (xs copy : List ℕ) : Type 0 where
  pub long : length copy ≡ most
  pub same : (k : ℕ) → from ≤ k → k < upto → get_or copy k 0 ≡ get_or xs k 0
