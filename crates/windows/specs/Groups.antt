-- The patterns that live, in lists behind the places: where the lists begin, which pattern is in which, and what the functions that make and cut them
-- are handed and leave. A list holds its patterns in order, so the place of each is the number of those before it.
use Rattle.std.specs.Prelude.{◌≡◌, Bool, true, false, cond, ◌&&◌, List, ℕ, ◌+◌, ◌*◌, ◌<◌, ◌≤◌, min, eqb, length, get_or}
use Rattle.rules.specs.declared.Pair.{Pair}
use Rattle.rules.specs.Below.{held}
use Rattle.rules.specs.Memory.{lacking_in}
use Rattle.rules.specs.Pairs.{pairs_of}
use Rattle.rules.specs.Refusal.{cells}
use Rattle.memory.specs.Pattern.{oldest_of, dies, lives}
use Rattle.places.specs.Cells.{Kept}
use Rattle.places.specs.Map.{far, marks, free_at, split_at, bound_at, alone_at}
use Rattle.windows.specs.Asked.{Windows}

-- the list of the patterns that must work or not, and whose older ones are worse off or not
abbrev pub list_at : (must worse : Bool) → ℕ
list_at must worse = cond must (cond worse alone_at bound_at) (cond worse split_at free_at)

-- an older one that is worse off must work where the pattern may fail, and has too few working already where that must work
abbrev pub worse_of : List Pair → (must : Bool) (old : ℕ) → Bool
worse_of ps must old = cond must (lacking_in ps old) (dies ps old)

abbrev pub list_of : List Pair → (must : Bool) (old : ℕ) → ℕ
list_of ps must old = list_at must (worse_of ps must old)

unfoldable pub group_of : List Pair → ℕ → ℕ
group_of ps x = list_of ps (dies ps x) (oldest_of ps + x)

unfoldable pub grouped : List Pair → (at x : ℕ) → Bool
grouped ps at x = lives ps x && eqb (group_of ps x) at

-- a list: how many, then each
abbrev pub count_at : List ℕ → (at : ℕ) → ℕ
count_at t at = get_or t at 0

abbrev pub entry_at : List ℕ → (at j : ℕ) → ℕ
entry_at t at j = get_or t (at + 1 + j) 0

pub record Entry (C : ℕ → Bool) (reach j x : ℕ) : Type 0 where
  pub member : C x ≡ true
  pub low : x < reach
  pub rank : held C x ≡ j

-- a list of the C's below `reach`
pub record Listed (C : ℕ → Bool) (reach at : ℕ) (t : List ℕ) : Type 0 where
  pub size : count_at t at ≡ held C reach
  pub is : (x : ℕ) → x < reach → C x ≡ true → entry_at t at (held C x) ≡ x
  pub entry : (j : ℕ) → j < count_at t at → Entry C reach j (entry_at t at j)

pub record Lists (ps : List Pair) (reach : ℕ) (t : List ℕ) : Type 0 where
  pub list : (must worse : Bool) → Listed (grouped ps (list_at must worse)) reach (list_at must worse) t

-- the marks of the patterns below `upto` and of those that follow them
abbrev pub flag_of : Bool → ℕ
flag_of test = cond test 1 0

pub record Marked (ps : List Pair) (upto : ℕ) (t : List ℕ) : Type 0 where
  pub none : get_or t marks 0 ≡ flag_of (lives ps 0)
  pub is : (x : ℕ) → x < 2 * upto → get_or t (marks + x) 0 ≡ flag_of (lives ps x)

-- a list with room for one more
pub record Listable (at : ℕ) (t : List ℕ) : Type 0 where
  pub low : at + 1 + count_at t at < cells
  pub room : cells ≤ length t

pub record Appended (at x : ℕ) (t₀ t : List ℕ) : Type 0 where
  pub count : count_at t at ≡ count_at t₀ at + 1
  pub here : entry_at t at (count_at t₀ at) ≡ x
  pub other : (c : ℕ) → (c ≡ at → ⊥) → (c ≡ at + 1 + count_at t₀ at → ⊥) → get_or t c 0 ≡ get_or t₀ c 0
  pub kept : Kept t₀ t

pub record Markable (x : ℕ) (t : List ℕ) : Type 0 where
  pub low : x < 256
  pub room : cells ≤ length t

pub record MarkedTwo (x : ℕ) (works fails : Bool) (t₀ t : List ℕ) : Type 0 where
  pub first : get_or t (marks + 2 * x) 0 ≡ flag_of works
  pub second : get_or t (marks + (2 * x + 1)) 0 ≡ flag_of fails
  pub other : (c : ℕ) → (c ≡ marks + 2 * x → ⊥) → (c ≡ marks + (2 * x + 1) → ⊥) → get_or t c 0 ≡ get_or t₀ c 0
  pub kept : Kept t₀ t

-- what is sorted by, and where
pub record Sortable (first second : ℕ) (more : List ℕ) (oldest : ℕ) (t : List ℕ) : Type 0 where
  pub windows : Windows second more
  pub none : lacking_in (pairs_of first second more) 0 ≡ false
  pub bit : oldest ≡ oldest_of (pairs_of first second more)
  pub most : oldest ≤ 256
  pub room : cells ≤ length t

-- the patterns below x sorted
pub record Sorting (first second : ℕ) (more : List ℕ) (oldest x : ℕ) (t : List ℕ) : Type 0 where
  pub by : Sortable first second more oldest t
  pub low : x < oldest
  pub lists : Lists (pairs_of first second more) x t
  pub marked : Marked (pairs_of first second more) x t

pub record Placed (first second : ℕ) (more : List ℕ) (upto : ℕ) (t₀ t : List ℕ) : Type 0 where
  pub lists : Lists (pairs_of first second more) upto t
  pub marked : Marked (pairs_of first second more) upto t
  pub places : (c : ℕ) → c < 2 * far → get_or t c 0 ≡ get_or t₀ c 0
  pub kept : Kept t₀ t

pub record Sorted (first second : ℕ) (more : List ℕ) (oldest : ℕ) (t₀ t : List ℕ) : Type 0 where
  pub lists : Lists (pairs_of first second more) oldest t
  pub places : (c : ℕ) → c < 2 * far → get_or t c 0 ≡ get_or t₀ c 0
  pub kept : Kept t₀ t

-- c of a list are below `reach`, as far as its last one and the next tell
pub record Cut (at reach : ℕ) (t : List ℕ) (c : ℕ) : Type 0 where
  pub most : c ≤ count_at t at
  pub last : 0 < c → get_or t (at + c) 0 < reach
  pub next : c < count_at t at → reach ≤ entry_at t at c

pub record Trimmed (at reach : ℕ) (t₀ t : List ℕ) : Type 0 where
  pub cut : Cut at reach t₀ (count_at t at)
  pub other : (c : ℕ) → (c ≡ at → ⊥) → get_or t c 0 ≡ get_or t₀ c 0
  pub kept : Kept t₀ t

-- the lists, with room
pub record Listables (oldest : ℕ) (t : List ℕ) : Type 0 where
  pub most : oldest ≤ 256
  pub list : (must worse : Bool) → count_at t (list_at must worse) ≤ 256
  pub room : cells ≤ length t

pub record TrimmedAll (reach oldest : ℕ) (t₀ t : List ℕ) : Type 0 where
  pub lists : (ps : List Pair) (prev : ℕ) → Lists ps prev t₀ → min oldest reach ≤ prev → prev ≤ oldest → Lists ps (min oldest reach) t
  pub places : (c : ℕ) → c < 2 * far → get_or t c 0 ≡ get_or t₀ c 0
  pub kept : Kept t₀ t
