-- A number's share of a unit, by which a value is multiplied instead of divided.
use Rattle.std.specs.Prelude.{◌≡◌, Bool, true, not, ℕ, ◌+◌, ◌*◌, ◌^◌, ◌≤◌, eqb}
use Rattle.rules.specs.State.{S}

-- a share is in parts of 2^62, in two digits of 32 bits
abbrev pub digit : ℕ
digit = 2 ^ 32

abbrev pub share_parts : ℕ
share_parts = 2 ^ 62

-- what the upper half of a product of 128 bits is in parts of
abbrev pub word_parts : ℕ
word_parts = 2 ^ 64

-- a number's share of the unit u, above it by at most a part
pub record Share (u x share : ℕ) : Type 0 where
  pub above : x * share_parts ≤ share * u
  pub near : share * u ≤ x * share_parts + u

-- is a step over u worked by shares? Over 2^30 a quotient is a shift
unfoldable pub by_shares : (u : ℕ) → Bool
by_shares u = not (eqb u S)

-- a number's share where it is asked for
pub record Dealt (u x share : ℕ) : Type 0 where
  pub is : by_shares u ≡ true → Share u x share
