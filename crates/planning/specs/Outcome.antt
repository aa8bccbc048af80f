-- What the call answers and leaves of the working table, and what it leaves where the table is handed back clear; and the whole numbers of a list's floats, as its two ratings begin with them.
use Rattle.std.specs.Prelude.{◌≡◌, Bool, false, List, ℕ, ◌+◌, ◌≤◌, ◌<◌, length, get_or, Float}
use Rattle.rules.specs.declared.Rating.{Rating}
use Rattle.rules.specs.Refusal.{most}
use Rattle.rules.specs.Answer.{Rates, table_after}
use Rattle.rules.specs.Doubles.{no_chance, whole_of, Planned, low_in, high_in, planned_refusal}
use Rattle.doubles.specs.Floats.{bits_of}
use Rattle.stretches.specs.Outcome.{Used}

-- chances, and a place of 64 from which they have room
pub record Room (from : ℕ) (floats : List Float) : Type 0 where
  pub chances : no_chance (bits_of floats) ≡ false
  pub fits : from + length floats ≤ most

-- the whole numbers of each, from that place on
pub record Filled (up : Bool) (from : ℕ) (floats : List Float) (numbers : List ℕ) : Type 0 where
  pub long : length numbers ≡ most
  pub filled : (i : ℕ) → i < length floats → get_or numbers (from + i) 0 ≡ whole_of up (get_or (bits_of floats) i 0)

-- the outcome of the rating: the table after a refusal as it was, after an answer as it was worked
pub record Answered (q : Planned) (t₀ t : List ℕ) (r : Rating) : Type 0 where
  pub answer : Rates r (planned_refusal q t₀) (low_in q) (high_in q)
  pub table : Used (planned_refusal q t₀) t₀ t

-- the outcome with the table handed back clear
pub record Rated (q : Planned) (t₀ t : List ℕ) (r : Rating) : Type 0 where
  pub answer : Rates r (planned_refusal q t₀) (low_in q) (high_in q)
  pub table : t ≡ table_after (planned_refusal q t₀) t₀
