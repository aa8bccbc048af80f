-- Document 01, "The seven verdicts": "The count table has n + 1 entries. Entry j is the number of working states with exactly j failed".
use Rattle.std.specs.Prelude.{Bool, ◌&&◌, List, ℕ, suc, ◌^◌, eqb}
use Rattle.std.specs.Int.Count.{ones}
use Rattle.rules.specs.declared.Rule.{Rule}
use Rattle.rules.specs.Below.{held, list_below}
use Rattle.rules.specs.Verdict.{works}

-- of the words below 2^n that `working` accepts, how many have exactly j ones?
unfoldable pub count_if : (working : ℕ → Bool) (n j : ℕ) → ℕ
count_if working n j = held (λ w. working w && eqb (ones w) j) (2 ^ n)

-- entry j of the count table
abbrev pub count_of : Rule → (n : ℕ) (weights : List ℕ) (j : ℕ) → ℕ
count_of rule n weights = count_if (works rule n weights) n

-- the count table
unfoldable pub counts_of : Rule → (n : ℕ) (weights : List ℕ) → List ℕ
counts_of rule n weights = list_below (suc n) (count_of rule n weights)
