-- Document 02: "Keep entries up to half of each row, 1,089 in all". Rows 0 to 64 folded at their middle, since a row reads the same from both ends,
-- one after the other; and Pascal's rule for such a table.
use Rattle.std.specs.Prelude.{Bool, true, cond, ◌&&◌, List, ℕ, zero, suc, ◌+◌, ◌*◌, ◌/◌, ◌-◌, eqb, leb, get_or, drop}

-- does p hold everywhere below k?
unfoldable pub every : (ℕ → Bool) → ℕ → Bool
every p zero = true
every p (suc k) = every p k && p k

-- where entry j of row n stands in the folded row: past the middle at the entry as far from the other end
abbrev pub fold_of : (n j : ℕ) → ℕ
fold_of n j = cond (leb j (n / 2)) j (n - j)

-- where the folded row n starts
abbrev pub start_of : ℕ → ℕ
start_of n = (n + 1) * (n + 1) / 4

-- the folded row n and those below it
abbrev pub row_from : List ℕ → ℕ → List ℕ
row_from table n = drop (start_of n) table

-- the first entry is 1, each other the sum of the two above, of which one past the middle is read where it stands
abbrev pub rule : (above row : List ℕ) (n j : ℕ) → Bool
rule above row n j = eqb (get_or row j 0) (cond (eqb j 0) 1 (get_or above (j - 1) 0 + get_or above (fold_of (n - 1) j) 0))

-- the rule at entry j of the folded row n
abbrev pub rule_at : List ℕ → (n : ℕ) → ℕ → Bool
rule_at table n = rule (row_from table (n - 1)) (row_from table n) n

-- the test: the rule at all 1,089 entries
abbrev pub folded_rule : List ℕ → Bool
folded_rule table = every (λ n. every (rule_at table n) (suc (n / 2))) 65
