-- A list that is filled from the front.
use Rattle.std.specs.Prelude.{◌≡◌, ℕ, ◌<◌, ◌≤◌, List, length, slice_index}

-- the list begins with the first k numbers that f gives, and is as long as it was
pub record Begins (f : ℕ → ℕ) (before after : List ℕ) (k : ℕ) : Type 0 where
  pub passed : k ≤ length after
  pub kept : length after ≡ length before
  pub each : (j : ℕ) → j < k → slice_index after j ≡ f j
