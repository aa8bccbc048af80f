-- Where a line of a text ends, and where the lines that end in it do.
use Rattle.std.specs.Prelude.{◌≡◌, List, ◌++◌, ℕ, ◌≤◌, ◌<◌, length, get_or, take, drop}
use Rattle.grammar.specs.Words.{newline, lines_on, lines_of}
use Rattle.grammar.specs.Stands.{part}
use Rattle.grammar.specs.Text.{with_lines}
use Rattle.listing.specs.declared.Listing.{Listing}
use Rattle.listing.specs.declared.Reached.{Reached}
use Rattle.listing.specs.Holds.{Steps}

-- bytes within one line: whatever comes before and behind them, they go on with the line
abbrev pub OneLine : List ℕ → Type 0
OneLine bytes = (so_far rest : List ℕ) → lines_on so_far (bytes ++ rest) ≡ lines_on (so_far ++ bytes) rest

-- the line from `at` on ends at r, at a newline or at the text's end
pub record LineEnds (text : List ℕ) (at r : ℕ) : Type 0 where
  pub low : at ≤ r
  pub high : r ≤ length text
  pub one : OneLine (part text at r)
  pub ends : r < length text → get_or text r 0 ≡ newline

-- the lines that end in a text, whatever follows it; what stands behind the last of them goes on
pub record LinesEnd (text : List ℕ) (at : ℕ) : Type 0 where
  pub within : at ≤ length text
  pub on : (rest : List ℕ) → lines_of (text ++ rest) ≡ lines_of (take at text) ++ lines_on (drop at text) rest

-- they were read
pub record ReadLines (text : List ℕ) (before : Listing) (out : List ℕ) (r : Reached) (then : List ℕ) : Type 0 where
  pub end : LinesEnd text r.at
  pub steps : Steps (length text) before out r.listing then (λ s. with_lines s (lines_of (take r.at text)))
