-- What kind 8 is asked with, and what its pairs ask of a pattern.
use Rattle.std.specs.Prelude.{◌≡◌, true, List, ℕ, ◌≤◌, ◌<◌, max, length}
use Rattle.rules.specs.Memory.{longest}
use Rattle.rules.specs.Pairs.{pairs_in, most_more, longest_window}
use Rattle.rules.specs.Refusal.{range_pairs}
use Rattle.memory.specs.declared.pattern.Pattern.{Pattern}
use Rattle.places.specs.Cells.{Workable}

-- pairs in range, one to four of them, over a list that can be worked
pub record Asked (u first second : ℕ) (more survival t : List ℕ) : Type 0 where
  pub range : range_pairs first second (length survival) more ≡ true
  pub list : Workable u survival t

-- the longest window, of the first pair's and the further ones'
abbrev pub farthest : (second : ℕ) (more : List ℕ) → ℕ
farthest second more = max second (longest (pairs_in more))

pub record Windows (second : ℕ) (more : List ℕ) : Type 0 where
  pub few : length more ≤ most_more
  pub short : farthest second more ≤ longest_window

-- so many states are kept at the most
abbrev pub many_kept : ℕ
many_kept = 512

-- a pattern that is judged by such windows
pub record Judged (second : ℕ) (more : List ℕ) (m : Pattern) : Type 0 where
  pub windows : Windows second more
  pub small : m.bits < many_kept
