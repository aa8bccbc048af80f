-- What deckmake writes of the bytes that were fed, and how it ends.
use Rattle.std.specs.Prelude.{◌≡◌, List, ℕ, eqb, ℤ, length, take}
use Rattle.io.specs.Counts.{IsPrefixLen}
use Rattle.grammar.specs.Words.{lines_of}
use Rattle.making.specs.declared.Made.{Made}
use Rattle.making.specs.Made.{file_out, said_out, listed_by}
use Rattle.shell.specs.Status.{status_of, OrFailed}
use Rattle.text_stream.specs.declared.Feeding.{Feeding}
use Rattle.text_stream.specs.Feeding.{HoldsBytes}

-- for standard output, and for standard error
abbrev pub made_file : (text : List ℕ) → List ℕ
made_file text = file_out (listed_by (lines_of text))

abbrev pub made_said : (text : List ℕ) → List ℕ
made_said text = said_out (listed_by (lines_of text))

-- the first bytes of two buffers are that, of all bytes that were fed
pub record MadeFrom (f : Feeding) (line before file out : List ℕ) (r : Made) : Type 0 where
  pub file_counts : IsPrefixLen r.size file
  pub out_counts : IsPrefixLen r.end out
  pub stands : (bytes : List ℕ) → HoldsBytes f line before bytes → (take r.size file ≡ made_file bytes) × (take r.end out ≡ made_said bytes)

-- a text with faults is refused
abbrev pub EndsBy : Feeding → (line out : List ℕ) → ℤ → Type 0
EndsBy f line out r = (bytes : List ℕ) → HoldsBytes f line out bytes → OrFailed (status_of (eqb (length (made_file bytes)) 0)) r
