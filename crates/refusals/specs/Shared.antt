-- Refusals 5 and 6 over the total weight as a number, and the refusals 1, 2, 5 and 6 that the verdict and the count table begin with.
use Rattle.std.specs.Prelude.{not, List, [], ◌∷◌, ℕ, ◌^◌, ◌-◌}
use Rattle.rules.specs.declared.Rule.{Rule}
use Rattle.rules.specs.State.{beside_of}
use Rattle.rules.specs.Refusal.{bad_kind, bad_size, weights_out, bad_weights, ranged, in_range, first_of}

-- the largest weight that 16 bits hold
abbrev pub largest : ℕ
largest = 2 ^ 16 - 1

-- 5 and 6, of a list of `whole` components with `listed` weights, those of the n components rated adding up to `total`
unfoldable pub rated_refusal : Rule → (whole listed n total : ℕ) (more : List ℕ) → ℕ
rated_refusal rule whole listed n total more =
    first_of ((5, weights_out rule whole listed total) ∷ (6, not (ranged rule n total more)) ∷ [])

-- 1, 2, 5 and 6
unfoldable pub rule_refusal : Rule → (n : ℕ) (weights more : List ℕ) → ℕ
rule_refusal rule n weights more =
    first_of
    ((1, bad_kind rule)
    ∷ (2, bad_size n)
    ∷ (5, bad_weights rule n weights weights)
    ∷ (6, not (in_range rule n (beside_of rule weights more)))
    ∷ [])
