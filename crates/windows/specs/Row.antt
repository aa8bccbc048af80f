-- What two sides of the lent table hold of the patterns' values, and what the functions that work a component more are handed and leave.
use Rattle.std.specs.Prelude.{◌≡◌, Bool, true, false, cond, ◌&&◌, ◌||◌, List, ℕ, suc, ◌+◌, ◌-◌, ◌*◌, ◌%◌, ◌^◌, ◌<◌, ◌≤◌, min, length, get_or}
use Rattle.rules.specs.declared.Pair.{Pair}
use Rattle.rules.specs.State.{S}
use Rattle.rules.specs.Memory.{live, machine_of, lacking_in}
use Rattle.rules.specs.Figure.{rounded, mixed}
use Rattle.rules.specs.Refusal.{cells}
use Rattle.memory.specs.Pattern.{oldest_of, lives, patterned}
use Rattle.places.specs.Cells.{Side, cell_at, Kept, Workable, value_of}
use Rattle.places.specs.Map.{far, half}
use Rattle.windows.specs.declared.Level.{Level}
use Rattle.windows.specs.Groups.{list_at, count_at, entry_at, Lists}

-- so many places from the first, of a table long enough
pub record Filling (count : ℕ) (t : List ℕ) : Type 0 where
  pub low : count ≤ half
  pub room : cells ≤ length t

-- the rounded step of x, which must work or not, out of the side at `from`
unfoldable pub step_of : (u : ℕ) (must : Bool) (p from : ℕ) (t : List ℕ) (up : Bool) (x : ℕ) → ℕ
step_of u must p from t up x = rounded up u (mixed u p (cell_at t up (from + 2 * x)) (cond must 0 (cell_at t up (from + (2 * x + 1)))))

-- a pattern without the oldest state to be worked, and its older one
pub record Ready (u : ℕ) (must worse : Bool) (p oldest from x : ℕ) (t : List ℕ) : Type 0 where
  pub narrow : u ≤ S
  pub survival : p ≤ u
  pub side : Side from
  pub most : oldest ≤ 256
  pub young : x < oldest
  pub room : cells ≤ length t
  pub works : (up : Bool) → cell_at t up (from + 2 * x) ≤ u
  pub fails : must ≡ false → (up : Bool) → cell_at t up (from + (2 * x + 1)) ≤ u

-- the two are worked, but for an older one that is dead
pub record Laid (u : ℕ) (must worse : Bool) (p oldest from x : ℕ) (t₀ t : List ℕ) : Type 0 where
  pub young : (up : Bool) → cell_at t up (half - from + x) ≡ step_of u must p from t₀ up x
  pub old : (must && worse) ≡ false → (up : Bool) → cell_at t up (half - from + (oldest + x)) ≡ step_of u (must || worse) p from t₀ up x
  pub other : (up : Bool) (k : ℕ) → k < far → (k ≡ half - from + x → ⊥) → (k ≡ half - from + (oldest + x) → ⊥) → cell_at t up k ≡ cell_at t₀ up k
  pub behind : (c : ℕ) → 2 * far ≤ c → get_or t c 0 ≡ get_or t₀ c 0
  pub kept : Kept t₀ t

-- a list of such patterns
pub record Handed (u : ℕ) (must worse : Bool) (p oldest from : ℕ) (t : List ℕ) : Type 0 where
  pub behind : 2 * far ≤ list_at must worse
  pub low : list_at must worse + count_at t (list_at must worse) < cells
  pub room : cells ≤ length t
  pub each : (j : ℕ) → j < count_at t (list_at must worse) → Ready u must worse p oldest from (entry_at t (list_at must worse) j) t

-- the first `count` of them worked
pub record Partly (u : ℕ) (must worse : Bool) (at p oldest from count : ℕ) (t₀ t : List ℕ) : Type 0 where
  pub young : (up : Bool) (j : ℕ) → j < count → cell_at t up (half - from + entry_at t₀ at j) ≡ step_of u must p from t₀ up (entry_at t₀ at j)
  pub old : (must && worse) ≡ false → (up : Bool) (j : ℕ) → j < count
      → cell_at t up (half - from + (oldest + entry_at t₀ at j)) ≡ step_of u (must || worse) p from t₀ up (entry_at t₀ at j)
  pub other : (up : Bool) (k : ℕ) → k < far → ((j : ℕ) → j < count → (k ≡ half - from + entry_at t₀ at j → ⊥) × (k ≡ half - from + (oldest + entry_at t₀ at j) → ⊥))
      → cell_at t up k ≡ cell_at t₀ up k
  pub behind : (c : ℕ) → 2 * far ≤ c → get_or t c 0 ≡ get_or t₀ c 0
  pub kept : Kept t₀ t

abbrev pub Worked : (u : ℕ) (must worse : Bool) (p oldest from : ℕ) (t₀ t : List ℕ) → Type 0
Worked u must worse p oldest from t₀ t = Partly u must worse (list_at must worse) p oldest from (count_at t₀ (list_at must worse)) t₀ t

-- the value of a pattern with i components left
abbrev pub pattern_value : (u : ℕ) → List Pair → (survival : List ℕ) (i : ℕ) (up : Bool) (m : ℕ) → ℕ
pattern_value u ps survival i up m = value_of u (machine_of (patterned ps)) survival (live m) up i

-- patterns below it can have been reached with `left` of n components left
abbrev pub reach_of : (oldest n left : ℕ) → ℕ
reach_of oldest n left = min oldest (2 ^ (n - left))

-- the side at `from` holds the values of those that live
pub record Held (u : ℕ) (ps : List Pair) (oldest : ℕ) (survival : List ℕ) (i reach from : ℕ) (t : List ℕ) : Type 0 where
  pub is : (up : Bool) (m : ℕ) → m < 2 * oldest → lives ps m ≡ true → m % oldest < reach → cell_at t up (from + m) ≡ pattern_value u ps survival i up m

pub record Levelled (u : ℕ) (ps : List Pair) (oldest : ℕ) (survival : List ℕ) (s : Level) (t : List ℕ) : Type 0 where
  pub bit : oldest ≡ oldest_of ps
  pub none : lacking_in ps 0 ≡ false
  pub most : oldest ≤ 256
  pub list : Workable u survival t
  pub side : Side s.from
  pub lists : Lists ps (reach_of oldest (length survival) s.left) t
  pub row : Held u ps oldest survival s.left (reach_of oldest (length survival) s.left) s.from t

-- what the component after i others is worked with, between one list and the next
pub record Midway (u : ℕ) (ps : List Pair) (oldest : ℕ) (survival : List ℕ) (i from p : ℕ) (t : List ℕ) : Type 0 where
  pub bit : oldest ≡ oldest_of ps
  pub none : lacking_in ps 0 ≡ false
  pub most : oldest ≤ 256
  pub list : Workable u survival t
  pub more : i < length survival
  pub side : Side from
  pub read : p ≡ get_or survival i 0
  pub lists : Lists ps (reach_of oldest (length survival) (suc i)) t
  pub row : Held u ps oldest survival i (reach_of oldest (length survival) i) from t

-- some pairs and a list have it
pub record Between (u oldest from p : ℕ) (t : List ℕ) : Type 0 where
  pub ps : List Pair
  pub survival : List ℕ
  pub i : ℕ
  pub midway : Midway u ps oldest survival i from p t

-- all lists worked, whatever pairs and list they are of
pub record Swept (u oldest from p : ℕ) (t₀ t : List ℕ) : Type 0 where
  pub level : (ps : List Pair) (survival : List ℕ) (i : ℕ) → Midway u ps oldest survival i from p t₀
      → Levelled u ps oldest survival (record { left = suc i; from = half - from }) t
  pub kept : Kept t₀ t

-- some pairs have such a level, and there is a component left
pub record Standing (u oldest : ℕ) (survival : List ℕ) (s : Level) (t : List ℕ) : Type 0 where
  pub ps : List Pair
  pub level : Levelled u ps oldest survival s t
  pub more : s.left < length survival

pub record Raised (u : ℕ) (ps : List Pair) (oldest : ℕ) (survival : List ℕ) (s : Level) (t : List ℕ) (r : Level) : Type 0 where
  pub level : Levelled u ps oldest survival r t
  pub is : r.left ≡ suc s.left
