-- Kind 2: what the working table holds of the sums, and what one component more makes of it. Row j stands at 120 j; its column s holds how many states of
-- the components 1 to i have exactly j failed that weigh s.
use Rattle.std.specs.Prelude.{◌≡◌, ◌⊎◌, List, ℕ, suc, ◌+◌, ◌-◌, ◌*◌, ◌^◌, ◌≤◌, ◌<◌, length, get_or}
use Rattle.rules.specs.Below.{sum_below, total}
use Rattle.rules.specs.State.{number_of}
use Rattle.rules.specs.Memory.{below, row1}
use Rattle.rules.specs.Refusal.{most, heaviest, cells}
use Rattle.bins.specs.From.{from}
use Rattle.bins.specs.Cells.{Outside}

-- the states that weigh less than c: as read from the sum k - c, which leaves c to k
abbrev pub lighter : (k : ℕ) (weights : List ℕ) (i j c : ℕ) → ℕ
lighter k weights i j c = from (row1 k (number_of weights)) (below (k - c) k (k - c)) i j

abbrev pub cell_at : (table : List ℕ) (j s : ℕ) → ℕ
cell_at table j s = get_or table (j * heaviest + s) 0

-- with the components 1 to i read, which add up to `reach`
pub record Sums (k : ℕ) (weights : List ℕ) (i reach : ℕ) (table : List ℕ) : Type 0 where
  pub is : (j c : ℕ) → j ≤ most → c ≤ k → sum_below c (cell_at table j) ≡ lighter k weights i j c
  pub none : (j s : ℕ) → j ≤ most → s < heaviest → reach < s → cell_at table j s ≡ 0

pub record Weighed (k : ℕ) (weights table : List ℕ) : Type 0 where
  pub some : 0 < k
  pub small : k ≤ heaviest
  pub most : length weights ≤ most
  pub light : total weights ≤ heaviest
  pub long : cells ≤ length table

pub record Added (k : ℕ) (weights : List ℕ) (i : ℕ) (before after : List ℕ) : Type 0 where
  pub is : (j : ℕ) → j ≤ most → sum_below k (cell_at after j) ≡ lighter k weights i j k
  pub rest : Outside 0 cells before after

-- a cell is added to another, and the sum fits 64 bits
pub record Raisable (from to : ℕ) (table : List ℕ) : Type 0 where
  pub read : from < length table
  pub written : to < length table
  pub fits : get_or table to 0 + get_or table from 0 < 2 ^ 64

-- `count` cells are added to `count` others behind them, and the sums fit 64 bits
pub record Addable (from to count : ℕ) (table : List ℕ) : Type 0 where
  pub apart : from + count ≤ to
  pub long : to + count ≤ length table
  pub fits : (s : ℕ) → s < count → get_or table (to + s) 0 + get_or table (from + s) 0 < 2 ^ 64

-- a component of weight w more: the first `count` columns of each row are added to the row above, w further on
pub record Turnable (w count rows : ℕ) (table : List ℕ) : Type 0 where
  pub row : w + count ≤ heaviest
  pub most : rows ≤ most
  pub long : cells ≤ length table
  pub fits : (j s : ℕ) → j < rows → s < count → cell_at table (suc j) (w + s) + cell_at table j s < 2 ^ 64

pub record Turned (w count from rows : ℕ) (before after : List ℕ) : Type 0 where
  pub new : (j s : ℕ) → from ≤ j → j < rows → s < count → cell_at after (suc j) (w + s) ≡ cell_at before (suc j) (w + s) + cell_at before j s
  pub kept : (j s : ℕ) → s < heaviest → (s < w) ⊎ (w + count ≤ s) → cell_at after j s ≡ cell_at before j s
  pub rest : Outside (suc from * heaviest) (suc rows * heaviest) before after

pub record Summable (k from : ℕ) (table : List ℕ) : Type 0 where
  pub small : k ≤ heaviest
  pub long : from + heaviest ≤ length table
  pub fits : sum_below k (λ s. get_or table (from + s) 0) < 2 ^ 64
