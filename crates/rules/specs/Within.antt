-- What a figure is at most: an answer whose figures are within the larger unit.
use Rattle.std.specs.Prelude.{◌≤◌}
use Rattle.rules.specs.State.{S}
use Rattle.rules.specs.declared.Rating.{Rating}
use Rattle.rules.specs.declared.Rating.TheVariants.{Range, Refused}

abbrev pub WithinUnit : Rating → Type 0
WithinUnit (Range low high) = (low ≤ S) × (high ≤ S)
WithinUnit (Refused number) = Unit {0}
