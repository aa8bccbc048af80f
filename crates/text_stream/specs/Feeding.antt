-- What is held of the bytes that were fed: whatever comes behind them, all lines list what the line at hand and the rest add to what is listed so far.
use Rattle.std.specs.Prelude.{◌≡◌, List, [], ◌++◌, ℕ, ◌+◌, ◌≤◌, length, take}
use Rattle.grammar.specs.Words.{lines_on}
use Rattle.grammar.specs.Text.{Listed, longest_line, with_lines, listed}
use Rattle.typed_lists.specs.Told.{told_room}
use Rattle.listing.specs.declared.Listing.{Listing}
use Rattle.listing.specs.Holds as listing
use Rattle.listing.specs.Holds.{Holds, HoldsText}
use Rattle.text_stream.specs.declared.Feeding.{Feeding}

-- a line that fills it is too long, whatever follows
abbrev pub line_room : ℕ
line_room = longest_line + 1

-- what is there of the line at hand
abbrev pub part_of : Feeding → (line : List ℕ) → List ℕ
part_of f line = take f.kept line

-- all bytes that were fed
pub record HoldsBytes (f : Feeding) (line out bytes : List ℕ) : Type 0 where
  pub state : Listed
  pub holds : Holds f.listing state out
  pub within : f.kept ≤ line_room
  pub on : (rest : List ℕ) → listed (bytes ++ rest) ≡ with_lines state (lines_on (part_of f line) rest)

-- as feeding asks: what is kept and what is listed have room
pub record Sane (f : Feeding) (out : List ℕ) : Type 0 where
  pub listing : listing.Sane f.listing out
  pub within : f.kept ≤ line_room

-- nothing was fed, and all faults can be told
pub record Starts (f : Feeding) : Type 0 where
  pub none : f.listing.lines ≡ 0
  pub sane : (out : List ℕ) → told_room ≤ length out → Sane f out
  pub holds : (line out : List ℕ) → told_room ≤ length out → HoldsBytes f line out []

-- whatever bytes were held, they and the piece are held then
pub record Fed (before : Feeding) (line out piece : List ℕ) (after : Feeding) (line' out' : List ℕ) : Type 0 where
  pub few : after.listing.lines ≤ before.listing.lines + length piece
  pub sane : Sane after out'
  pub holds : (bytes : List ℕ) → HoldsBytes before line out bytes → HoldsBytes after line' out' (bytes ++ piece)

-- the end: whatever bytes were held, they are the text
pub record Ends (before : Feeding) (line out : List ℕ) (after : Listing) (then : List ℕ) : Type 0 where
  pub sane : listing.Sane after then
  pub holds : (bytes : List ℕ) → HoldsBytes before line out bytes → HoldsText after bytes then
