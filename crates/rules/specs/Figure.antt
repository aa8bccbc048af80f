-- Document 01, "The memory of a reading": low and high, the exact sum E, and the third condition, over any unit u.
use Rattle.std.specs.Prelude.{Bool, true, false, cond, List, ℕ, zero, suc, ◌+◌, ◌-◌, ◌*◌, ◌/◌, ◌^◌, ◌≤◌, length}
use Rattle.rules.specs.declared.Rule.{Rule}
use Rattle.rules.specs.Below.{sum_below}
use Rattle.rules.specs.State.{number_of, failure, down}
use Rattle.rules.specs.Verdict.{works}
use Rattle.rules.specs.Memory.{Machine, live, Row, machine_of, reading_of}

-- "divided by S .. rounded down each time for low, rounded up each time for high"
unfoldable pub rounded : (up : Bool) (u x : ℕ) → ℕ
rounded false u x = x / u
rounded true u x = (x + (u - 1)) / u

-- "P of i times the value after it works, plus Q of i times the value after it fails"
abbrev pub mixed : (u p a b : ℕ) → ℕ
mixed u p a b = p * a + failure u p * b

-- "With no components left the value is S where the end works, else 0. With components 1 to i left, the value is .. over 1 to i - 1"
unfoldable pub value : {M : Type 0} → Machine M → (up : Bool) (u : ℕ) (P : ℕ → ℕ) → ℕ → M → ℕ
value K up u P zero m = cond (K.ends m) u 0
value K up u P (suc i) m =
    rounded up u
    (mixed u (P (suc i)) (value K up u P i (K.worked (suc i) m)) (value K up u P i (K.failed (suc i) m)))

-- "The answer is the value at the start with all n left", of a row of the table
abbrev pub figure_of : {A : Type 0} → Row A → (up : Bool) (u : ℕ) (survival : List ℕ) → ℕ
figure_of R up u survival = value (machine_of R) up u (number_of survival) (length survival) (live R.start)

-- low with rounding down, high with rounding up
abbrev pub figure : (up : Bool) (u : ℕ) → Rule → (survival weights : List ℕ) → ℕ
figure up u rule survival weights = figure_of (reading_of rule weights).row up u survival

abbrev pub low : (u : ℕ) → Rule → (survival weights : List ℕ) → ℕ
low u = figure false u

abbrev pub high : (u : ℕ) → Rule → (survival weights : List ℕ) → ℕ
high u = figure true u

-- "the product of P for each working and Q for each failed component" of the components i down to 1
unfoldable pub product : (u : ℕ) (P : ℕ → ℕ) → ℕ → ℕ → ℕ
product u P zero w = 1
product u P (suc i) w = cond (down i w) (failure u (P (suc i))) (P (suc i)) * product u P i w

-- "adds, over every working state"
unfoldable pub exact_if : (working : ℕ → Bool) (u : ℕ) (P : ℕ → ℕ) (n : ℕ) → ℕ
exact_if working u P n = sum_below (2 ^ n) (λ w. cond (working w) (product u P n w) 0)

-- "The exact sum E"
abbrev pub exact : (u : ℕ) → Rule → (survival weights : List ℕ) → ℕ
exact u rule survival weights = exact_if (works rule (length survival) weights) u (number_of survival) (length survival)

-- "low times S^(n-1) <= E <= high times S^(n-1), and high - low <= n - 1"
pub record Third (u n low high E : ℕ) : Type 0 where
  pub above_low : low * u ^ (n - 1) ≤ E
  pub below_high : E ≤ high * u ^ (n - 1)
  pub width : high - low ≤ n - 1
