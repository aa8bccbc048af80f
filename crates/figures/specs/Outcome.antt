-- What the rating call answers and leaves of the working table, and what it leaves where the table is handed back clear.
use Rattle.std.specs.Prelude.{ℕ, ◌≡◌, List}
use Rattle.rules.specs.declared.Rating.{Rating}
use Rattle.rules.specs.Asked.{Asked, low_of, high_of}
use Rattle.rules.specs.Refusal.{figures_refusal}
use Rattle.rules.specs.Answer.{Rates, table_after}
use Rattle.stretches.specs.Outcome.{Used}

-- the outcome of the rating call: the table after a refusal as it was, after an answer as it was worked
pub record Answered (q : Asked) (t₀ t : List ℕ) (r : Rating) : Type 0 where
  pub answer : Rates r (figures_refusal q t₀) (low_of q) (high_of q)
  pub table : Used (figures_refusal q t₀) t₀ t

-- the outcome with the table handed back clear
pub record Rated (q : Asked) (t₀ t : List ℕ) (r : Rating) : Type 0 where
  pub answer : Rates r (figures_refusal q t₀) (low_of q) (high_of q)
  pub table : t ≡ table_after (figures_refusal q t₀) t₀
