-- A listing and the buffer of its faults hold what has been read of a text.
use Rattle.std.specs.Prelude.{◌≡◌, Bool, List, ◌++◌, ℕ, ◌+◌, ◌≤◌, length}
use Rattle.rules.specs.Refusal.{most_boards}
use Rattle.rules.specs.File.{most_systems}
use Rattle.grammar.specs.Text.{Listed, nothing, counted, last_faults, listed}
use Rattle.listing.specs.declared.Listing.{Listing}
use Rattle.typed_lists.specs.Lists.{Stored, Fanned, Lined, Ruled}
use Rattle.typed_lists.specs.Told.{told_room, Roomy, Telling}

pub record Holds (l : Listing) (s : Listed) (out : List ℕ) : Type 0 where
  pub lines : l.lines ≡ s.lines
  pub version : l.version ≡ s.version
  pub begun : l.begun ≡ s.begun
  pub fans : Fanned l.fans s.survival s.weights s.boards s.fan_lines
  pub boards : Stored most_boards l.boards l.switchboards s.switchboards
  pub systems : Ruled l.systems s.systems
  pub told : Telling l.told s.faults out

-- nothing has been read, and all faults can be told
abbrev pub Starts : Listing → Type 0
Starts l = (out : List ℕ) → told_room ≤ length out → Holds l nothing out

-- what is counted has room in its arrays
pub record Counted (l : Listing) : Type 0 where
  pub fans : Lined l.fans
  pub boards : l.boards ≤ most_boards
  pub switchboards : length l.switchboards ≡ most_boards
  pub systems : l.systems.count ≤ most_systems

-- and so has what may still be told: as each step asks
pub record Sane (l : Listing) (out : List ℕ) : Type 0 where
  pub counted : Counted l
  pub room : Roomy l.told out

-- at most so many lines more; whatever it held, it holds what a step makes of that
pub record Steps (more : ℕ) (before : Listing) (out : List ℕ) (after : Listing) (then : List ℕ) (step : Listed → Listed) : Type 0 where
  pub sane : Sane after then
  pub few : after.lines ≤ before.lines + more
  pub holds : (s : Listed) → Holds before s out → Holds after (step s) then

-- a line more, whatever it held
pub record Counts (before after : Listing) (begun : Bool) : Type 0 where
  pub one : after.lines ≡ before.lines + 1
  pub sane : (out : List ℕ) → Sane before out → Sane after out
  pub holds : (out : List ℕ) (s : Listed) → Holds before s out → Holds after (counted s begun) out

-- lines are counted up to 2^62, which no text reaches
abbrev pub most_lines : ℕ
most_lines = 4611686018427387904

-- the end of the text: what can be told only then
abbrev pub ended : Listed → Listed
ended s = record {
  lines = s.lines;
  version = s.version;
  begun = s.begun;
  survival = s.survival;
  weights = s.weights;
  boards = s.boards;
  fan_lines = s.fan_lines;
  switchboards = s.switchboards;
  systems = s.systems;
  faults = s.faults ++ last_faults s;
}

-- a whole text: what it lists and its faults
abbrev pub HoldsText : Listing → (text out : List ℕ) → Type 0
HoldsText l text out = Holds l (ended (listed text)) out
