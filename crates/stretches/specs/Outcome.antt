-- What is worked of a stretch that is not refused, and what is left of a lent table: by a call that does not clear it, and cleared.
use Rattle.std.specs.Prelude.{ℕ, ◌≡◌, Bool, true, false, List}
use Rattle.rules.specs.declared.Rating.{Rating}
use Rattle.rules.specs.declared.Rating.TheVariants.{Range, Refused}
use Rattle.rules.specs.Asked.{Asked, low_of, high_of}
use Rattle.rules.specs.Answer.{cleared}
use Rattle.places.specs.declared.Ends.{Ends}
use Rattle.places.specs.Cells.{Kept}

-- low and high, in a table of which no more is known than what lies past its cells
pub record Worked (q : Asked) (t₀ t : List ℕ) (r : Ends) : Type 0 where
  pub low : r.low ≡ low_of q
  pub high : r.high ≡ high_of q
  pub kept : Kept t₀ t

-- the table after a call that does not clear it, by the call's refusal: after a refusal as it was, after an answer kept past its cells
pub record Used (refusal : ℕ) (t₀ t : List ℕ) : Type 0 where
  pub untouched : (refusal ≡ 0 → ⊥) → t ≡ t₀
  pub kept : Kept t₀ t

-- is a rating an answer, and no refusal?
abbrev pub is_range : Rating → Bool
is_range (Range low high) = true
is_range (Refused number) = false

-- a table cleared after an answer, and after a refusal as it was
abbrev pub cleared_if : (answered : Bool) → List ℕ → List ℕ
cleared_if true table = cleared table
cleared_if false table = table

-- whether there was an answer, by the call's refusal
abbrev pub Answers : (answered : Bool) (refusal : ℕ) → Type 0
Answers true refusal = refusal ≡ 0
Answers false refusal = refusal ≡ 0 → ⊥
