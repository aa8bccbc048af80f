-- What each case of the answer says of the figures that go out: both ends as floats, here each divided by 2^30, or the refusal's number.
use Rattle.std.specs.Prelude.{◌≡◌, List, ℕ, Float}
use Rattle.rules.specs.declared.Rating.{Rating}
use Rattle.rules.specs.declared.Rating.TheVariants as rating
use Rattle.rules.specs.Doubles.{export_of}
use Rattle.doubles.specs.Floats.{Over}
use Rattle.export.specs.declared.Ends.{Ends}
use Rattle.export.specs.declared.Chance.{Chance}
use Rattle.export.specs.declared.Chance.TheVariants.{Range, Refused}

-- low and high, each as the float that is promised of it
pub record Both (Low High : ℕ → Float → Type 0) (low high : ℕ) (e : Ends) : Type 0 where
  pub lower : Low low e.low
  pub upper : High high e.high

-- "a pair of floats, or the refusal with no floats"
abbrev pub Tells : (Low High : ℕ → Float → Type 0) → Rating → Chance → Type 0
Tells Low High (rating.Range low high) (Range e) = Both Low High low high e
Tells Low High (rating.Range low high) (Refused number) = ⊥
Tells Low High (rating.Refused n) (Range e) = ⊥
Tells Low High (rating.Refused n) (Refused number) = number ≡ n

-- the outcome of the call: "low and high of a version 1 deck are each divided by 2^30"
pub record Exported (file : List ℕ) (system : ℕ) (r : Chance) : Type 0 where
  pub answer : Tells Over Over (export_of file system) r
