-- A float by its 64 bits, and what a division and a multiplication by 2^30 leave of its own value (rules/specs/Doubles): all of it.
use Rattle.std.specs.Prelude.{◌≡◌, ℕ, ◌*◌, false, T, List, map, to_bits, Float}
use Rattle.std.specs.Float.{binary64}
use Rattle.std.specs.Float.Ieee.{fits}
use Rattle.rules.specs.State.{S}
use Rattle.rules.specs.Doubles.{parts, sign, own}

abbrev pub bits : Float → ℕ
bits x = to_bits binary64 x

abbrev pub bits_of : List Float → List ℕ
bits_of xs = map bits xs

-- "divided by 2^30, which is exact": a double with no sign, whose own value times 2^30 is x times 2^1074
pub record Over (x : ℕ) (r : Float) : Type 0 where
  pub double : T (fits binary64 r)
  pub signless : sign (bits r) ≡ false
  pub exact : own (bits r) * S ≡ x * parts

-- "times 2^30 (exact too)", the sign kept
pub record Times (x r : Float) : Type 0 where
  pub signed : sign (bits r) ≡ sign (bits x)
  pub exact : own (bits r) ≡ own (bits x) * S
