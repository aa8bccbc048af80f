-- What a reading holds of the bytes that were fed: whatever comes behind them, what is told of all is what the reading tells of the rest. And the report.
use Rattle.std.specs.Prelude.{◌≡◌, Bool, false, cond, not, List, ◌++◌, ℕ, ◌+◌, ◌-◌, ◌≤◌, ◌<◌, eqb, length, take}
use Rattle.io.specs.Counts.{IsPrefixLen}
use Rattle.ending.specs.Ending.{asks, longest}
use Rattle.totals.specs.declared.Totals.{Totals}
use Rattle.totals.specs.Season.{totals_of}
use Rattle.totals.specs.Plus.{files_plus}
use Rattle.totals.specs.Room.{most_files, Open}
use Rattle.totals.specs.Stream.{files_in, waiting_in, files_of, is_waiting}
use Rattle.season_report.specs.Lines.{season_text}
use Rattle.season_stream.specs.declared.Reading.{Reading}
use Rattle.season_stream.specs.declared.Season.{Season}
use Rattle.season_stream.specs.declared.Report.{Report}

-- what is told of a stream
abbrev pub season_of : (stream : List ℕ) → Season
season_of stream = record { totals = totals_of (files_of stream); waiting = is_waiting stream }

-- has a refused file ended the reading?
abbrev pub is_ended : (stream : List ℕ) → Bool
is_ended stream = not (eqb (totals_of (files_of stream)).refused 0)

-- what is told where so many files of it may still be read, after totals so far
abbrev pub season_in : (most : ℕ) → Totals → (stream : List ℕ) → Season
season_in most t stream = record { totals = files_plus t (files_in most stream); waiting = waiting_in most stream }

-- what is there of the file at hand
abbrev pub part_of : Reading → List ℕ
part_of r = take r.kept r.part

-- what is told, where this is the rest of the stream
abbrev pub goes_on : Reading → (rest : List ℕ) → Season
goes_on r rest = cond r.closed (record { totals = r.totals; waiting = r.waiting }) (season_in (most_files - r.files) r.totals (part_of r ++ rest))

-- the file at hand is whole
abbrev pub with_file : Reading → Totals → Reading
with_file r sum = record {
  part = r.part;
  kept = 0;
  files = r.files + 1;
  closed = cond (eqb (r.files + 1) most_files) false (not (eqb sum.refused 0));
  waiting = false;
  totals = sum;
}

-- what is known while files are read: the one at hand asks for more, and another can be added
pub record Ongoing (r : Reading) : Type 0 where
  pub few : r.files ≤ most_files
  pub asking : r.kept < asks (part_of r)
  pub full : r.files ≡ most_files → r.kept ≡ 0
  pub decks : r.totals.decks ≤ r.files
  pub spare : r.files < most_files → Open r.totals

pub record Sane (r : Reading) : Type 0 where
  pub room : length r.part ≡ longest
  pub within : r.kept ≤ longest
  pub ongoing : r.closed ≡ false → Ongoing r

-- so many bytes can be taken at once
abbrev pub Takes : Reading → ℕ → Type 0
Takes r n = r.closed ≡ false → r.files < most_files → (r.kept + n ≤ asks (part_of r)) × (r.kept + n ≤ longest)

-- `after` is `before` with these bytes fed
pub record Fed (before : Reading) (bytes : List ℕ) (after : Reading) : Type 0 where
  pub sane : Sane after
  pub on : (rest : List ℕ) → goes_on before (bytes ++ rest) ≡ goes_on after rest

-- all bytes that were fed
pub record Holds (r : Reading) (bytes : List ℕ) : Type 0 where
  pub sane : Sane r
  pub on : (rest : List ℕ) → season_of (bytes ++ rest) ≡ goes_on r rest

-- what stands in the buffer is the report on them
pub record Reported (r : Reading) (out : List ℕ) (report : Report) : Type 0 where
  pub counts : IsPrefixLen report.end out
  pub text : (bytes : List ℕ) → Holds r bytes → take report.end out ≡ season_text bytes
  pub refused : (bytes : List ℕ) → Holds r bytes → report.refused ≡ is_ended bytes
