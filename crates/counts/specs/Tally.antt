-- What the count table is worked for, and that it is.
use Rattle.std.specs.Prelude.{◌≡◌, cond, ◌⊎◌, List, [], ℕ, suc, ◌+◌, ◌-◌, ◌*◌, ◌^◌, ◌≤◌, ◌<◌, eqb, ltb, length, get_or}
use Rattle.rules.specs.declared.Rule.{Rule}
use Rattle.rules.specs.Below.{sum_below}
use Rattle.rules.specs.Count.{count_of}
use Rattle.rules.specs.Refusal.{after, most, heaviest, cells, not_counted}
use Rattle.rules.specs.Accepted.{Accepted}
use Rattle.refusals.specs.Shared.{rule_refusal}
use Rattle.bins.specs.Cells.{Outside, Stored}
use Rattle.bins.specs.Bins.{around_at}
use Rattle.places.specs.Map.{bin_row}
use Rattle.counts.specs.Sums.{cell_at}

-- the call's refusal, by the lengths of the lent tables
abbrev pub refusal_of : Rule → (n : ℕ) (weights : List ℕ) (lent slots : ℕ) → ℕ
refusal_of rule n weights lent slots =
    cond (not_counted rule) 15 (after (rule_refusal rule n weights []) (cond (ltb lent cells) 7 (cond (ltb slots (suc n)) 8 0)))

-- a call that nothing refuses
pub record Countable (rule : Rule) (n : ℕ) (weights table room : List ℕ) : Type 0 where
  pub accepted : Accepted rule n weights
  pub counted : rule.kind ≤ 7
  pub long : cells ≤ length table
  pub slots : n < length room

-- every count is written, the table is used in its first 7,800 cells
pub record Tallied (rule : Rule) (n : ℕ) (weights table room tableExit roomExit : List ℕ) : Type 0 where
  pub used : Outside 0 cells table tableExit
  pub counts : Stored (count_of rule n weights) 0 0 (suc n) room roomExit

-- kinds 2, 4 and 5: where entry j stands in the working table, or what adds up to it there
unfoldable pub entry_at : Rule → (n : ℕ) (table : List ℕ) (j : ℕ) → ℕ
entry_at rule n table j =
    cond (eqb rule.kind 2)
    (sum_below rule.first (cell_at table j))
    (cond (eqb rule.kind 4)
    (get_or table ((n + 1 - j) * bin_row + j) 0)
    (cond (eqb j n) 0 (around_at rule.first ((n - 1 - j) * bin_row + j) j table)))

-- the kinds that are worked in the table
abbrev pub OnTable : ℕ → Type 0
OnTable kind = (kind ≡ 2) ⊎ ((kind ≡ 4) ⊎ (kind ≡ 5))

pub record Workable (rule : Rule) (n : ℕ) (weights table : List ℕ) : Type 0 where
  pub kind : OnTable rule.kind
  pub accepted : Accepted rule n weights
  pub long : cells ≤ length table

-- the table is worked so that its entries are the counts
pub record Worked (rule : Rule) (n : ℕ) (weights before after : List ℕ) : Type 0 where
  pub is : (j : ℕ) → j ≤ n → entry_at rule n after j ≡ count_of rule n weights j
  pub rest : Outside 0 cells before after

pub record Layable (rule : Rule) (n : ℕ) (table : List ℕ) : Type 0 where
  pub most : n ≤ most
  pub two : rule.kind ≡ 2 → rule.first ≤ heaviest
  pub long : cells ≤ length table
  pub fits : (j : ℕ) → j ≤ n → entry_at rule n table j < 2 ^ 64
