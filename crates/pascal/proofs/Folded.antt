-- Pascal's table as it is: rows 0 to 64, each up to its middle, one after the other. The rule is one test over all 1,089 entries, which the checker
-- computes; lemmas carry it to each of them, and a row reads the same from both ends. Hence each entry of a row is the count of words that it stands
-- for. Assumes nothing.
use mathlib.Core.Path.{◌≡◌, refl, sym, ◌∙◌}
use mathlib.Core.Bool.{true}
use mathlib.Core.List.{List}
use Prim.Native.Nat.{ℕ, zero, suc, ◌+◌, ◌*◌, ◌/◌, ◌-◌, ◌≤◌, ◌<◌}
use native.Mathlib.Omega.{arith}
use native.Mathlib.Nat.{mul-le-mul}
use native.Mathlib.Numerals.{sub-one}
use lib.Dec.{leb, eqb-suc-zero}
use lib.ListN.{get_or}
use lib.Seq.{get_or-drop}
use borrow.Author.Tests.{eqb-true, leb-true, leb-false}
use Rattle.rules.proofs.Tests.{by-test}
use Rattle.pascal.specs.Ways.{ways_of}
use Rattle.pascal.specs.Folded.{every, fold_of, start_of, row_from, rule_at, folded_rule}
use Rattle.pascal.proofs.Every.{every-at}
use Rattle.pascal.proofs.Triangle.{ways-sum, ways-first, ways-mirror}

-- ---- the fold

pub fold-front : (n j : ℕ) → j ≤ n → fold_of n j ≤ n / 2
fold-front n j l = by-test (λ k. k ≤ n / 2) (leb j (n / 2)) j (n - j) (λ e. leb-true _ _ e) (λ e. omega (arith, leb-false j (n / 2) e))

pub fold-ways : (n j : ℕ) → j ≤ n → ways_of n (fold_of n j) ≡ ways_of n j
fold-ways n j l = by-test (λ k. ways_of n k ≡ ways_of n j) (leb j (n / 2)) j (n - j) (λ e. refl) (λ e. ways-mirror n (n - j) j (omega arith))

-- ---- the table

-- entry j of the folded row n
abbrev front : List ℕ → (n j : ℕ) → ℕ
front table n j = get_or table (start_of n + j) 0

-- entry j of row n
abbrev pub folded_entry : List ℕ → (n j : ℕ) → ℕ
folded_entry table n j = front table n (fold_of n j)

-- row n starts at a quarter of (n + 1) * (n + 1), row 64 at a quarter of 65 * 65
pub row_small : {n : ℕ} → n ≤ 64 → (n + 1) * (n + 1) ≤ 65 * 65
row_small {n} h =
    let k : n + 1 ≤ 65 = omega arith in
    mul-le-mul k k

in_row : (table : List ℕ) (n j : ℕ) → get_or (row_from table n) j 0 ≡ front table n j
in_row table n j = get_or-drop (start_of n) table j 0

module _ (table : List ℕ) (tested : folded_rule table ≡ true) where
  at : (n j : ℕ) → n ≤ 64 → j ≤ n / 2 → rule_at table n j ≡ true
  at n j h l = every-at (rule_at table n) (suc (n / 2)) (every-at (λ m. every (rule_at table m) (suc (m / 2))) 65 tested n (omega arith)) j (omega arith)

  first-is : (n : ℕ) → n ≤ 64 → front table n 0 ≡ 1
  first-is n h = sym (in_row table n 0) ∙ eqb-true _ _ (at n 0 h (omega arith))

  sum_is : (n j : ℕ) → n < 64 → suc j ≤ suc n / 2 → front table (suc n) (suc j) ≡ front table n j + folded_entry table n (suc j)
  sum_is n j h l =
      sym (in_row table (suc n) (suc j))
      ∙ eqb-true _ _ (at (suc n) (suc j) h l)
      ∙ rw (eqb-suc-zero j, sub-one (suc n), sub-one (suc j), in_row table n j, in_row table n (fold_of n (suc j)))

  -- a row of counts below another
  row_more : (n : ℕ) → n < 64 → ((j : ℕ) → j ≤ n / 2 → front table n j ≡ ways_of n j) → (j : ℕ) → j ≤ suc n / 2 → front table (suc n) j ≡ ways_of (suc n) j
  row_more n h above zero l = first-is (suc n) h ∙ sym (ways-first (suc n))
  row_more n h above (suc j) l =
      let within : suc j ≤ n = omega arith in
      omega (
        arith,
        sum_is n j h l,
        above j (omega arith),
        above (fold_of n (suc j)) (fold-front n (suc j) within),
        fold-ways n (suc j) within,
        ways-sum n j,
      )

  -- each entry of a folded row is the count of words
  front-ways : (n : ℕ) → n ≤ 64 → (j : ℕ) → j ≤ n / 2 → front table n j ≡ ways_of n j
  front-ways zero h j l =
      let first : j ≡ 0 = omega arith in
      rw first (first-is 0 h ∙ sym (ways-first 0))
  front-ways (suc n) h j l = row_more n h (front-ways n (omega arith)) j l

  -- and so is each entry of a row
  pub folded-ways : (n j : ℕ) → n ≤ 64 → j ≤ n → folded_entry table n j ≡ ways_of n j
  folded-ways n j h l = front-ways n h (fold_of n j) (fold-front n j l) ∙ fold-ways n j l
