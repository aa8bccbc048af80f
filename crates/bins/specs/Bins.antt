-- Kinds 4 and 5: what the working table holds of the bins. Row b stands at 66 b, its column j holds `bins k b j`, for b + j up to n + 1.
use Rattle.std.specs.Prelude.{◌≡◌, cond, List, ℕ, suc, ◌+◌, ◌-◌, ◌*◌, ◌^◌, ◌≤◌, ◌<◌, min, ltb, length, get_or}
use Rattle.rules.specs.Below.{sum_below}
use Rattle.rules.specs.Refusal.{most, cells}
use Rattle.places.specs.Map.{bin_row}
use Rattle.bins.specs.From.{bins}
use Rattle.bins.specs.Cells.{Outside}

pub record Sized (k n : ℕ) (table : List ℕ) : Type 0 where
  pub some : 0 < k
  pub most : n ≤ most
  pub long : cells ≤ length table

-- the rows below `rows`
pub record Bins (k n rows : ℕ) (table : List ℕ) : Type 0 where
  pub is : (b j p : ℕ) → b < rows → b + j ≤ n + 1 → p ≡ b * bin_row + j → get_or table p 0 ≡ bins k b j

-- rows made, the rest as it was
pub record Made (k n rows : ℕ) (before after : List ℕ) : Type 0 where
  pub filled : Bins k n rows after
  pub rest : Outside 0 cells before after

-- what the row behind the one at `from` lets go in column j
unfoldable pub gone_at : (k from j : ℕ) (table : List ℕ) → ℕ
gone_at k from j table = cond (ltb j k) 0 (get_or table (from + (j - k)) 0)

-- the row's sum has room for one number more, and holds the one that it lets go
pub record Slides (k from j held : ℕ) (table : List ℕ) : Type 0 where
  pub long : from + j < length table
  pub fits : held + get_or table (from + j) 0 < 2 ^ 64
  pub holds : gone_at k from j table ≤ held + get_or table (from + j) 0

-- the table has the rows up to n + 1
pub record Filled (n j : ℕ) (table : List ℕ) : Type 0 where
  pub most : n ≤ most
  pub few : j ≤ n
  pub long : cells ≤ length table

-- m failed ones around the end of a ring, m + 1 ways to lay them, and the others in the bins between: column j of a row, at `top`, and those below it
abbrev pub term : (top : ℕ) (table : List ℕ) (m : ℕ) → ℕ
term top table m = suc m * get_or table (top - m) 0

abbrev pub around_at : (k top j : ℕ) (table : List ℕ) → ℕ
around_at k top j table = sum_below (min k (suc j)) (term top table)

pub record Part (top m : ℕ) (table : List ℕ) : Type 0 where
  pub most : m ≤ most
  pub row : m ≤ top
  pub long : top < length table
  pub fits : term top table m < 2 ^ 64

pub record Around (k top j : ℕ) (table : List ℕ) : Type 0 where
  pub most : j ≤ most
  pub row : j ≤ top
  pub long : top < length table
  pub fits : around_at k top j table < 2 ^ 64
