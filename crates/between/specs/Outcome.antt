-- What a chance between two doubles is: of a file of any version the double nearest below low and the one nearest above high, each over the file's unit.
use Rattle.std.specs.Prelude.{false, true, List, ℕ, ◌-◌, ◌*◌, ◌^◌, ◌≤◌, Float}
use Rattle.rules.specs.declared.Rating.{Rating}
use Rattle.rules.specs.declared.Rating.TheVariants as rating
use Rattle.rules.specs.State.{unit_of}
use Rattle.rules.specs.Asked.{Asked, unit_in, parts_of, exact_of}
use Rattle.rules.specs.File.{version_in, system_in, deck_in, asked_by, loading_of}
use Rattle.rules.specs.Doubles.{parts, own}
use Rattle.doubles.specs.Floats.{bits}
use Rattle.nearest.specs.Nearest.{Nearest}
use Rattle.nearest.specs.Raised.{Within}
use Rattle.export.specs.declared.Ends.{Ends}
use Rattle.export.specs.declared.Chance.{Chance}
use Rattle.export.specs.Outcome.{Tells}

-- figures that are parts of the unit
abbrev pub InUnit : (unit : ℕ) → Rating → Type 0
InUnit unit (rating.Range low high) = Within unit low × Within unit high
InUnit unit (rating.Refused number) = Unit {0}

-- a double nearest below a figure of the file, and one nearest above
abbrev pub Below : (file : List ℕ) → ℕ → Float → Type 0
Below file = Nearest false (unit_of (version_in file))

abbrev pub Above : (file : List ℕ) → ℕ → Float → Type 0
Above file = Nearest true (unit_of (version_in file))

-- the outcome of the call; what is refused is what the loading computer's call refuses
pub record Enclosed (file : List ℕ) (system : ℕ) (r : Chance) : Type 0 where
  pub answer : Tells (Below file) (Above file) (loading_of file system) r

-- what a file's system, counted from 1, asks
abbrev pub asked_in : (file : List ℕ) (system : ℕ) → Asked
asked_in file system = asked_by (deck_in file) (system_in file (system - 1))

-- the exact chance lies between the two doubles: with u for the unit, N for the fans and boards and v for a double's own value, v u^N <= E 2^1074 of the
-- lower one, and the other way round of the upper
pub record Spans (q : Asked) (e : Ends) : Type 0 where
  pub above_low : own (bits e.low) * unit_in q ^ parts_of q ≤ exact_of q * parts
  pub below_high : exact_of q * parts ≤ own (bits e.high) * unit_in q ^ parts_of q
