-- Rows 1 to 3: a sum, which only grows. Under rows 1 and 2 it is dead from k on.
use Rattle.std.specs.Prelude.{Bool, not, ℕ, ◌+◌, ltb}
use Rattle.rules.specs.Below.{within}
use Rattle.rules.specs.Memory.{Machine}
use Rattle.memory.specs.declared.sum.Sum.{Sum}

abbrev pub sum : ℕ → Sum
sum c = record { sum = c }

abbrev pub sum_worked : Sum → Sum
sum_worked m = m

abbrev pub sum_failed : (weight : ℕ) → Sum → Sum
sum_failed weight m = sum (m.sum + weight)

abbrev pub below_limit : (k : ℕ) → Sum → Bool
below_limit k m = ltb m.sum k

abbrev pub sum_outside : (l h : ℕ) → Sum → Bool
sum_outside l h m = not (within l m.sum h)

-- as a machine
abbrev pub summing : (weight : ℕ → ℕ) (end : Sum → Bool) → Machine Sum
summing weight end = record {
  start = sum 0;
  worked = λ i. sum_worked;
  failed = λ i. sum_failed (weight i);
  ends = end;
}
