-- Document 01: "How many states have j failed at all".
use Rattle.std.specs.Prelude.{true, ℕ}
use Rattle.rules.specs.Count.{count_if}

-- how many words below 2^n have j ones
abbrev pub ways_of : (n j : ℕ) → ℕ
ways_of n j = count_if (λ w. true) n j
