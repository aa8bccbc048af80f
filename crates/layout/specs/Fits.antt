-- Numbers that fit so many bytes.
use Rattle.std.specs.Prelude.{List, ℕ, ◌<◌, get_or}

-- every number of a list is below a limit
pub record Under (limit : ℕ) (xs : List ℕ) : Type 0 where
  pub each : (i : ℕ) → get_or xs i 0 < limit

-- a list of bytes
abbrev pub Bytes : List ℕ → Type 0
Bytes bytes = Under 256 bytes
