-- Pascal's table as it was before its rows were folded: rows 0 to 64 whole, one after the other, 2,145 entries, which no program holds any more.
-- Its rule was one test over all of it; each entry of a list that passes the test is the count of words that it stands for. Assumes nothing.
use mathlib.Core.Path.{◌≡◌, refl, sym, ◌∙◌}
use mathlib.Core.Bool.{Bool, true, cond, ◌||◌, or-true}
use mathlib.Core.List.{List, [], ◌∷◌, ◌++◌}
use mathlib.Core.Logic.{⊎_elim}
use Prim.Native.Nat.{ℕ, zero, suc, ◌+◌, ◌*◌, ◌/◌, ◌-◌, ◌≤◌, ◌<◌}
use native.Mathlib.Omega.{arith}
use native.Mathlib.Nat.{eq-or-lt_of_le}
use native.Mathlib.Numerals.{sub-one}
use lib.Dec.{eqb, eqb-suc-zero}
use lib.ListN.{length, get_or, drop}
use lib.Seq.{get_or-drop}
use borrow.Author.Tests.{eqb-true, eq-eqb, ne_eqb}
use Rattle.pascal.specs.Ways.{ways_of}
use Rattle.pascal.specs.Folded.{every}
use Rattle.pascal.proofs.Every.{every-at}
use Rattle.pascal.proofs.Triangle.{ways-sum, ways-first, ways-last}

-- row n and the rows below it
abbrev row_from : List ℕ → ℕ → List ℕ
row_from table n = drop (n * (n + 1) / 2) table

-- "ends are 1, each other entry is the sum of the two above"
abbrev rule : (above row : List ℕ) (n j : ℕ) → Bool
rule above row n j = eqb (get_or row j 0) (cond (eqb j 0 || eqb j n) 1 (get_or above (j - 1) 0 + get_or above j 0))

-- the rule at entry j of row n
abbrev rule_at : List ℕ → (n : ℕ) → ℕ → Bool
rule_at table n = rule (row_from table (n - 1)) (row_from table n) n

-- the test: the rule at every entry of rows 0 to 64
abbrev pub whole_rule : List ℕ → Bool
whole_rule table = every (λ n. every (rule_at table n) (suc n)) 65

-- sums of neighbours, from x and the first of the row to the last alone: the row below, where x is 0
unfoldable pub sums : ℕ → List ℕ → List ℕ
sums x [] = x ∷ []
sums x (y ∷ row) = (x + y) ∷ sums y row

-- a row and so many below it
unfoldable pub rows : ℕ → List ℕ → List ℕ
rows zero row = row
rows (suc k) row = row ++ rows k (sums 0 row)

-- there is such a table
pub whole-stands : (length (rows 64 (1 ∷ [])) ≡ 2145) × (whole_rule (rows 64 (1 ∷ [])) ≡ true)
unfolding every sums rows
whole-stands = (refl, refl)

-- entry j of row n
abbrev pub whole_entry : List ℕ → (n j : ℕ) → ℕ
whole_entry table n j = get_or table (n * (n + 1) / 2 + j) 0

in_row : (table : List ℕ) (n j : ℕ) → get_or (row_from table n) j 0 ≡ whole_entry table n j
in_row table n j = get_or-drop (n * (n + 1) / 2) table j 0

module _ (table : List ℕ) (tested : whole_rule table ≡ true) where
  at : (n j : ℕ) → n ≤ 64 → j ≤ n → rule_at table n j ≡ true
  at n j h l = every-at (rule_at table n) (suc n) (every-at (λ m. every (rule_at table m) (suc m)) 65 tested n (omega arith)) j (omega arith)

  first-is : (n : ℕ) → n ≤ 64 → whole_entry table n 0 ≡ 1
  first-is n h = sym (in_row table n 0) ∙ eqb-true _ _ (at n 0 h (omega arith))

  last-is : (n : ℕ) → n ≤ 64 → whole_entry table n n ≡ 1
  last-is n h = sym (in_row table n n) ∙ eqb-true _ _ (at n n h (omega arith)) ∙ rw (eq-eqb n n refl, or-true)

  sum_is : (n j : ℕ) → n < 64 → j < n → whole_entry table (suc n) (suc j) ≡ whole_entry table n j + whole_entry table n (suc j)
  sum_is n j h l =
      sym (in_row table (suc n) (suc j))
      ∙ eqb-true _ _ (at (suc n) (suc j) h (omega arith))
      ∙ rw (eqb-suc-zero j, ne_eqb (suc j) (suc n) (λ e. omega arith), sub-one (suc n), sub-one (suc j), in_row table n j, in_row table n (suc j))

  -- each entry is the count of words
  pub whole-ways : (n j : ℕ) → n ≤ 64 → j ≤ n → whole_entry table n j ≡ ways_of n j
  whole-ways n zero h l = first-is n h ∙ sym (ways-first n)
  whole-ways zero (suc j) h l = absurd (omega arith)
  whole-ways (suc n) (suc j) h l =
      ⊎_elim
      (λ s. rw s (last-is (suc n) h ∙ sym (ways-last (suc n))))
      (λ k. omega (arith, sum_is n j h k, whole-ways n j (omega arith) (omega arith), whole-ways n (suc j) (omega arith) k, ways-sum n j))
      (eq-or-lt_of_le {n = j} {m = n} (omega arith))
