-- The call's contract settles its outcome: a float that is x over 2^30 exactly is one float, so any two outcomes that it allows are equal. So are those of any
-- call that promises one float of low and one of high. Assumes nothing.
use mathlib.Core.Path.{◌≡◌, sym, ap, ◌∙◌}
use mathlib.Core.List.{List}
use Prim.Native.Nat.{ℕ}
use Rattle.rules.specs.declared.Rating.{Rating}
use Rattle.rules.specs.declared.Rating.TheVariants as rating
use Rattle.rules.specs.Doubles.{export_of}
use Rattle.rules.proofs.Unless.{unless-by}
use lib.Ieee.{Float}
use Rattle.doubles.specs.Floats.{Over}
use Rattle.doubles.proofs.Once.{over-once}
use Rattle.rules.specs.Within.{WithinUnit}
use Rattle.rules.proofs.Within.{loading-within}
use Rattle.export.specs.declared.Chance.{Chance}
use Rattle.export.specs.declared.Chance.TheVariants.{Range, Refused}
use Rattle.export.specs.Outcome.{Tells, Exported}

pub export-within : (file : List ℕ) (system : ℕ) → WithinUnit (export_of file system)
unfolding export_of
export-within file system = unless-by WithinUnit _ rating.Refused _ tt (λ e. loading-within file system)

-- a promise that one float keeps, of a number
abbrev pub One : (ℕ → Float → Type 0) → ℕ → Type 0
One P x = (r t : Float) → P x r → P x t → r ≡ t

-- what a rating's figures must have, for their floats to be settled
abbrev pub Ones : (Low High : ℕ → Float → Type 0) → Rating → Type 0
Ones Low High (rating.Range low high) = One Low low × One High high
Ones Low High (rating.Refused n) = Unit {0}

pub one-chance : (Low High : ℕ → Float → Type 0) (q : Rating) → Ones Low High q → (r r' : Chance) → Tells Low High q r → Tells Low High q r' → r ≡ r'
one-chance Low High (rating.Range low high) s (Range e) (Range d) h k =
    let lower = s.0 e.low d.low h.lower k.lower in
    let upper = s.1 e.high d.high h.upper k.upper in
    ap Range (λ x. record { low = lower x; high = upper x })
one-chance Low High (rating.Range low high) s (Range e) (Refused m) h k = absurd k
one-chance Low High (rating.Range low high) s (Refused m) r' h k = absurd h
one-chance Low High (rating.Refused n) s (Range e) r' h k = absurd h
one-chance Low High (rating.Refused n) s (Refused m) (Range d) h k = absurd k
one-chance Low High (rating.Refused n) s (Refused m) (Refused l) h k = ap Refused (h ∙ sym k)

pub over_ones : (q : Rating) → WithinUnit q → Ones Over Over q
over_ones (rating.Range low high) s = (λ r t. over-once low r t s.0, λ r t. over-once high r t s.1)
over_ones (rating.Refused n) s = tt

pub same-chance : {file : List ℕ} {system : ℕ} {r r' : Chance} → Exported file system r → Exported file system r' → r ≡ r'
same-chance {file} {system} h k = one-chance Over Over (export_of file system) (over_ones (export_of file system) (export-within file system)) _ _ h.answer k.answer
