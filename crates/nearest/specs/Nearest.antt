-- The doubles nearest a fraction x / unit, the one below it and the one above, by the own value that a double's 64 bits spell (rules/specs/Doubles).
use Rattle.std.specs.Prelude.{◌≡◌, Bool, true, false, ℕ, ◌*◌, ◌≤◌, T, Float}
use Rattle.std.specs.Float.{binary64}
use Rattle.std.specs.Float.Ieee.{fits}
use Rattle.rules.specs.Doubles.{parts, sign, own}
use Rattle.doubles.specs.Floats.{bits}

-- v bounds w from below, or from above where `up`
abbrev pub Bounds : (up : Bool) (v w : ℕ) → Type 0
Bounds false v w = v ≤ w
Bounds true v w = w ≤ v

-- a double without a sign that bounds x / unit, and of any 64 bits that spell a bound none spells a nearer one; v parts of 2^1074 are at most x / unit
-- where v times the unit is at most x times 2^1074
pub record Nearest (up : Bool) (unit x : ℕ) (r : Float) : Type 0 where
  pub double : T (fits binary64 r)
  pub signless : sign (bits r) ≡ false
  pub bounds : Bounds up (own (bits r) * unit) (x * parts)
  pub nearest : (b : ℕ) → Bounds up (own b * unit) (x * parts) → Bounds up (own b) (own (bits r))
