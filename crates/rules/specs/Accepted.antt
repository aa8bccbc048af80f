-- What is known of a rule over n components that no refusal of 1, 2, 5 and 6 meets, and of a list whose figures are worked.
use Rattle.std.specs.Prelude.{◌≡◌, true, List, ℕ, ◌≤◌, length, get_or}
use Rattle.rules.specs.declared.Rule.{Rule}
use Rattle.rules.specs.Below.{total}
use Rattle.rules.specs.Refusal.{last_kind, most, heaviest, in_range, cells, most_boards}

pub record Accepted (rule : Rule) (n : ℕ) (beside : List ℕ) : Type 0 where
  pub kind_low : 1 ≤ rule.kind
  pub kind_high : rule.kind ≤ last_kind
  pub size_low : 1 ≤ n
  pub size_high : n ≤ most
  pub weights_length : rule.kind ≡ 2 → length beside ≡ n
  pub weights_total : rule.kind ≡ 2 → total beside ≤ heaviest
  pub in-range : in_range rule n beside ≡ true

-- the column "range", kinds 1, 2, 4 and 5: first from 1 to `most`, second 0
pub record One (k most second : ℕ) : Type 0 where
  pub low : 1 ≤ k
  pub high : k ≤ most
  pub none : second ≡ 0

-- kinds 6 and 7: first 2, second from 2 to `most`
pub record Two (first r most : ℕ) : Type 0 where
  pub two : first ≡ 2
  pub low : 2 ≤ r
  pub high : r ≤ most

-- the boards of a list that is rated: at most four, numbers within the unit, and no fan on one that there is not
pub record Boarded (u : ℕ) (boards switchboards : List ℕ) : Type 0 where
  pub few : length switchboards ≤ most_boards
  pub units : (i : ℕ) → get_or switchboards i 0 ≤ u
  pub placed : (i : ℕ) → get_or boards i 0 ≤ length switchboards

-- a list with an accepted rule, numbers within the unit, and a table to work in
pub record Ratable (u : ℕ) (rule : Rule) (survival beside table : List ℕ) : Type 0 where
  pub accepted : Accepted rule (length survival) beside
  pub units : (i : ℕ) → get_or survival i 0 ≤ u
  pub room : cells ≤ length table
