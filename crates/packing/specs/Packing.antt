-- Answers that one number carries: figures within 2^30, and the documents' refusal numbers.
use Rattle.std.specs.Prelude.{ℕ, ◌≤◌}
use Rattle.rules.specs.State.{S}
use Rattle.rules.specs.declared.Rating.{Rating}
use Rattle.rules.specs.declared.Rating.TheVariants.{Range, Refused}

-- the highest number of the refusals
abbrev pub most_refusal : ℕ
most_refusal = 21

abbrev pub Packable : Rating → Type 0
Packable (Range low high) = (low ≤ S) × (high ≤ S)
Packable (Refused number) = number ≤ most_refusal
