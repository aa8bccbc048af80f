-- The outcome of a rating that C asks for: the figures as one number, and the working table; of a worth; and of a count table.
use Rattle.std.specs.Prelude.{ℕ, ◌≡◌, List, ℤ}
use Rattle.rules.specs.Asked.{Asked}
use Rattle.rules.specs.declared.Rule.{Rule}
use Rattle.rules.specs.declared.Counting.{Counting}
use Rattle.rules.specs.declared.Counting.TheVariants.{Counted, Refused}
use Rattle.rules.specs.Refusal.{figures_refusal, count_refusal}
use Rattle.rules.specs.Answer.{figures_of, table_after, room_after}
use Rattle.rules.specs.Worth.{worth_refusal, worth_of}
use Rattle.rules.specs.File.{packed}
use Rattle.loading.specs.Outcome.{number_of, ends_after}

pub record Timed (q : Asked) (t₀ t : List ℕ) (r : ℕ) : Type 0 where
  pub answer : r ≡ packed (figures_of q t₀)
  pub table : t ≡ table_after (figures_refusal q t₀) t₀

-- and of a worth: 0 and both ends, or the refusal and the ends as they were
pub record TimedWorth (q : Asked) (fan : ℕ) (t₀ t : List ℕ) (e₀ e : List ℤ) (r : ℕ) : Type 0 where
  pub number : r ≡ number_of (worth_of q fan t₀)
  pub table : t ≡ table_after (worth_refusal q fan t₀) t₀
  pub ends : e ≡ ends_after (worth_of q fan t₀) e₀

abbrev pub counting_number : Counting → ℕ
counting_number Counted = 0
counting_number (Refused number) = number

-- and of a count table: 0 and the room written, or the refusal and the room as it was
pub record TimedCounts (rule : Rule) (n : ℕ) (weights t₀ t m₀ m : List ℕ) (r : ℕ) : Type 0 where
  pub number : r ≡ count_refusal rule n weights t₀ m₀
  pub table : t ≡ table_after (count_refusal rule n weights t₀ m₀) t₀
  pub room : m ≡ room_after (count_refusal rule n weights t₀ m₀) rule n weights m₀
