-- A text put into a buffer after what stands there already.
use Rattle.std.specs.Prelude.{◌≡◌, List, ◌++◌, ℕ, ◌+◌, length, take}

-- up to `at` the buffer held something; up to `end` it holds the same, and then the text
pub record Added (text out : List ℕ) (at : ℕ) (after : List ℕ) (end : ℕ) : Type 0 where
  pub ends : end ≡ at + length text
  pub stands : take end after ≡ take at out ++ text
