-- What a call answers that compares two ratings, and what it leaves of the working table: as it was worked, or handed back clear.
use Rattle.std.specs.Prelude.{ℕ, ◌≡◌, Bool, true, false, not, cond, List, ℤ}
use Rattle.rules.specs.declared.Worth.{Worth}
use Rattle.rules.specs.declared.Worth.TheVariants.{Ends, Refused}
use Rattle.rules.specs.Below.{within}
use Rattle.rules.specs.Refusal.{after}
use Rattle.rules.specs.Answer.{table_after}
use Rattle.rules.specs.Worth.{Weighs}
use Rattle.stretches.specs.Outcome.{Used}

-- a rating's own refusal and the stretch: 17 comes after it
abbrev pub fan_refusal : (own a fan b : ℕ) → ℕ
fan_refusal own a fan b = after own (cond (not (within a fan b)) 17 0)

-- is it an answer, and no refusal?
abbrev pub is_ends : Worth → Bool
is_ends (Ends lower upper) = true
is_ends (Refused number) = false

-- by the call's refusal and the two ends: the table after a refusal as it was, after an answer as it was worked
pub record Compared (refusal : ℕ) (lower upper : ℤ) (t₀ t : List ℕ) (r : Worth) : Type 0 where
  pub answer : Weighs r refusal lower upper
  pub table : Used refusal t₀ t

-- the same with the table handed back clear
pub record Returned (refusal : ℕ) (lower upper : ℤ) (t₀ t : List ℕ) (r : Worth) : Type 0 where
  pub answer : Weighs r refusal lower upper
  pub table : t ≡ table_after refusal t₀
