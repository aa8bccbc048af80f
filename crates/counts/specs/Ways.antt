-- Kinds 1, 3, 6 and 7: an entry of the count table by Pascal's numbers.
use Rattle.std.specs.Prelude.{◌≡◌, Bool, true, cond, List, ℕ, ◌+◌, ◌-◌, ◌*◌, ◌≤◌, ◌<◌, eqb, leb}
use Rattle.rules.specs.declared.Rule.{Rule}
use Rattle.rules.specs.Below.{within}
use Rattle.rules.specs.Refusal.{most}
use Rattle.pascal.specs.Ways.{ways_of}
use Rattle.pascal.specs.Folded.{folded_rule}

-- kinds 1 and 3: do the states with j failed fail?
unfoldable pub fails_at : Rule → (j : ℕ) → Bool
fails_at rule j = cond (eqb rule.kind 1) (leb rule.first j) (within rule.first j rule.second)

-- a line of i components with j failed: each failed one but the last is followed by `owed` that work
unfoldable pub apart_of : (owed i j : ℕ) → ℕ
apart_of owed i j = ways_of (i - (j - 1) * owed) j

-- the ring of n: each failed one is followed by `owed` that work, so n - j * owed places are left; or the ring's end falls among those that follow one,
-- in one of `owed` ways, and the others have a place less
unfoldable pub ring_of : (owed n j : ℕ) → ℕ
ring_of owed n j = cond (eqb j 0) 1 (ways_of (n - j * owed) j + owed * ways_of (n - 1 - j * owed) (j - 1))

-- entry j
unfoldable pub entry_of : Rule → (n j : ℕ) → ℕ
entry_of rule n j =
    cond (leb rule.kind 3)
    (cond (fails_at rule j) 0 (ways_of n j))
    (cond (eqb rule.kind 6) (apart_of (rule.second - 1) n j) (ring_of (rule.second - 1) n j))

-- a rule whose entries are looked up: under kind 6 r may be above n
pub record Spread (rule : Rule) (n : ℕ) : Type 0 where
  pub size : n ≤ most
  pub some : 3 < rule.kind → 1 ≤ rule.second
  pub small : 3 < rule.kind → rule.second ≤ most
  pub ring : 3 < rule.kind → (rule.kind ≡ 6 → ⊥) → rule.second ≤ n

-- what a lookup is asked with
pub record Lookup (owed i j : ℕ) (triangle : List ℕ) : Type 0 where
  pub owes : owed < most
  pub size : i ≤ most
  pub few : j ≤ most
  pub folded : folded_rule triangle ≡ true
