-- Kinds 1 to 3 as one machine: a sum, of weights that the kind says, asked at the end as the kind asks it.
use Rattle.std.specs.Prelude.{ℕ, suc, ◌≤◌, Bool, cond, List, eqb}
use Rattle.rules.specs.declared.Rule.{Rule}
use Rattle.rules.specs.State.{number_of}
use Rattle.rules.specs.Below.{sum_below}
use Rattle.rules.specs.Memory.{Machine}
use Rattle.rules.specs.Refusal.{heaviest}
use Rattle.memory.specs.declared.sum.Sum.{Sum}
use Rattle.memory.specs.Sum.{below_limit, sum_outside, summing}

-- the kinds whose memory is a sum
abbrev pub Sums : Rule → Type 0
Sums rule = rule.kind ≤ 3

-- how far component i carries a sum where it fails
unfoldable pub carry_of : Rule → (weights : List ℕ) (i : ℕ) → ℕ
carry_of rule weights i = cond (eqb rule.kind 2) (number_of weights i) 1

-- and the first n together
abbrev pub load_of : Rule → (weights : List ℕ) (n : ℕ) → ℕ
load_of rule weights n = sum_below n (λ i. carry_of rule weights (suc i))

-- one more than the most components: kind 3 has no dead sums, and none comes so far
abbrev pub past_all : ℕ
past_all = 65

-- sums from here on are dead, or never come
abbrev pub limit_of : Rule → ℕ
limit_of rule = cond (eqb rule.kind 3) past_all rule.first

-- how many sums from the limit on one component can come to
abbrev pub gap_of : Rule → ℕ
gap_of rule = cond (eqb rule.kind 2) heaviest 1

unfoldable pub end_of : Rule → Sum → Bool
end_of rule m = cond (eqb rule.kind 3) (sum_outside rule.first rule.second m) (below_limit (limit_of rule) m)

abbrev pub summed : Rule → (weights : List ℕ) → Machine Sum
summed rule weights = summing (carry_of rule weights) (end_of rule)
