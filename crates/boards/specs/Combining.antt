-- The combination on its way: the figures of each set of failed boards, and what is asked of them and of the boards.
use Rattle.std.specs.Prelude.{◌≡◌, Bool, true, cond, List, ℕ, ◌+◌, ◌^◌, ◌≤◌, ◌<◌, length, get_or}
use Rattle.rules.specs.declared.Rule.{Rule}
use Rattle.rules.specs.Figure.{rounded, mixed, figure}
use Rattle.rules.specs.Boards.{board_down, behind}
use Rattle.rules.specs.Refusal.{most_boards}
use Rattle.places.specs.declared.Ends.{Ends}
use Rattle.places.specs.Cells.{Within}

-- "the figures are worked with those fans' survival 0"
abbrev pub figure_out : (up : Bool) (u : ℕ) → Rule → (survival beside boards : List ℕ) (out : ℕ) → ℕ
figure_out up u rule survival beside boards out = figure up u rule (behind boards out survival) beside

-- an end of a set's figures: low ends stand in one list, high ends in another
abbrev pub set_at : Bool → (low high : List ℕ) (out : ℕ) → ℕ
set_at up low high out = cond up (get_or high out 0) (get_or low out 0)

-- the sets of the most boards that there can be
abbrev pub sets : ℕ
sets = 2 ^ most_boards

-- a place for each of them
pub record Spaced (low high : List ℕ) : Type 0 where
  pub lows : length low ≡ sets
  pub highs : length high ≡ sets

-- board numbers of at most four boards
pub record Behind (boards : List ℕ) : Type 0 where
  pub each : (i : ℕ) → get_or boards i 0 ≤ most_boards

-- a set that each fan's board is in
pub record Felt (boards : List ℕ) (set : ℕ) : Type 0 where
  pub each : (i : ℕ) → 1 ≤ get_or boards i 0 → board_down set (get_or boards i 0) ≡ true

-- a board, and the two values that its step mixes
pub record Mixable (u : ℕ) (switchboards : List ℕ) (b : ℕ) (works fails : Ends) : Type 0 where
  pub place : b < length switchboards
  pub units : (i : ℕ) → get_or switchboards i 0 ≤ u
  pub left : Within u works
  pub right : Within u fails

-- a board, and the figures of twice as many sets as are left without it
pub record Halvable (u : ℕ) (switchboards : List ℕ) (b half : ℕ) (low high : List ℕ) : Type 0 where
  pub place : b < length switchboards
  pub units : (i : ℕ) → get_or switchboards i 0 ≤ u
  pub few : half + half ≤ sets
  pub spaced : Spaced low high
  pub within : (up : Bool) (j : ℕ) → j < half + half → set_at up low high j ≤ u

-- each set with its own without the board and with it mixed
pub record Halved (u p half : ℕ) (low₀ high₀ low high : List ℕ) : Type 0 where
  pub spaced : Spaced low high
  pub each : (up : Bool) (j : ℕ) → j < half
      → set_at up low high j ≡ rounded up u (mixed u p (set_at up low₀ high₀ j) (set_at up low₀ high₀ (half + j)))

-- the boards, and the figures of every set of them
pub record Combinable (u : ℕ) (switchboards low high : List ℕ) : Type 0 where
  pub few : length switchboards ≤ most_boards
  pub units : (i : ℕ) → get_or switchboards i 0 ≤ u
  pub spaced : Spaced low high
  pub within : (up : Bool) (j : ℕ) → set_at up low high j ≤ u
