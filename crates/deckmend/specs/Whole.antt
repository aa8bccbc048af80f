-- The first bytes of two buffers are what deckmend writes for a whole input, of which a third buffer holds the front and so many bytes follow.
use Rattle.std.specs.Prelude.{◌≡◌, List, ℕ, ◌+◌, length, take, ℤ}
use Rattle.io.specs.Counts.{IsPrefixLen}
use Rattle.shell.specs.Status.{Handed}
use Rattle.rules.specs.Refusal.{last_version, most_boards}
use Rattle.rules.specs.File.{file_length, most_fans, most_systems}
use Rattle.printing.specs.Front.{Front}
use Rattle.deckmend.specs.Lines.{file_out, lines_out}
use Rattle.deckmend.specs.declared.mending.Told.{Told}

-- the longest file
abbrev pub file_room : ℕ
file_room = file_length last_version most_fans most_boards most_systems

pub record WholeMended (buffer : List ℕ) (filled rest : ℕ) (file out : List ℕ) (r : Told) : Type 0 where
  pub file_counts : IsPrefixLen r.size file
  pub out_counts : IsPrefixLen r.end out
  pub stands : (input : List ℕ) → Front input buffer filled → length input ≡ filled + rest
      → (take r.size file ≡ file_out input) × (take r.end out ≡ lines_out input)

-- how deckmend ends: of a refused input there is no file
pub record MendedEnds (buffer : List ℕ) (filled rest : ℕ) (r : ℤ) : Type 0 where
  pub ends : (input : List ℕ) → Front input buffer filled → length input ≡ filled + rest → Handed (length (file_out input)) r
