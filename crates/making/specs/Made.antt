-- What goes to standard output for what a text lists, and what to standard error.
use Rattle.std.specs.Prelude.{◌≡◌, Bool, cond, List, [], ℕ, eqb, length, take}
use Rattle.io.specs.Counts.{IsPrefixLen}
use Rattle.rules.specs.Refusal.{last_version, most_boards}
use Rattle.rules.specs.File.{file_length, most_fans, most_systems}
use Rattle.rules.specs.Writing.{bytes_for, write_refusal}
use Rattle.grammar.specs.Words.{lines_of}
use Rattle.grammar.specs.Text.{Listed, nothing, with_lines, typed_by}
use Rattle.faults.specs.Told.{faults_text, most_told}
use Rattle.listing.specs.declared.Listing.{Listing}
use Rattle.listing.specs.Holds.{Holds, ended, HoldsText}
use Rattle.making.specs.Lines.{warnings_text}
use Rattle.making.specs.declared.Made.{Made}

-- "nothing goes to standard output then": where a line is faulty
abbrev pub faultless : Listed → Bool
faultless s = eqb (length s.faults) 0

unfoldable pub file_out : Listed → List ℕ
file_out s = cond (faultless s) (bytes_for (typed_by s)) []

-- "every faulty line is told, at most twenty"; else what will be refused of the deck
unfoldable pub said_out : Listed → List ℕ
said_out s = cond (faultless s) (warnings_text (bytes_for (typed_by s)) (length s.systems)) (faults_text (take most_told s.faults))

-- what lines list, to their end
abbrev pub listed_by : (lines : List (List ℕ)) → Listed
listed_by lines = ended (with_lines nothing lines)

-- the first bytes of a buffer are the file of what is listed, where the writer does not refuse it
pub record FileOf (l : Listing) (before after : List ℕ) (size : ℕ) : Type 0 where
  pub counts : IsPrefixLen size after
  pub stands : (s : Listed) (told : List ℕ) → Holds l s told → write_refusal (typed_by s) before ≡ 0 → take size after ≡ bytes_for (typed_by s)

-- the longest file
abbrev pub file_room : ℕ
file_room = file_length last_version most_fans most_boards most_systems

-- the first bytes of two buffers are what deckmake writes for the text, whichever it is
pub record MadeOf (l : Listing) (before file out : List ℕ) (r : Made) : Type 0 where
  pub file_counts : IsPrefixLen r.size file
  pub out_counts : IsPrefixLen r.end out
  pub stands : (text : List ℕ) → HoldsText l text before
      → (take r.size file ≡ file_out (listed_by (lines_of text))) × (take r.end out ≡ said_out (listed_by (lines_of text)))
