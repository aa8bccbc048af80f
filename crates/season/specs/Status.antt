-- How season ends: by whether a refused file has ended the reading, whatever was read.
use Rattle.std.specs.Prelude.{List, ℕ, ℤ}
use Rattle.shell.specs.Status.{status_of, OrFailed}
use Rattle.season_stream.specs.declared.Reading.{Reading}
use Rattle.season_stream.specs.Reading.{is_ended, Holds}

abbrev pub EndsBy : Reading → ℤ → Type 0
EndsBy reading r = (bytes : List ℕ) → Holds reading bytes → OrFailed (status_of (is_ended bytes)) r
