-- `reading::read_stream` meets its contract: what was fed leaves a reading that can go on. Assumes nothing.
use mathlib.Core.Path.{◌≡◌}
use Prim.Native.Nat.{◌≤◌}
use lib.ListN.{length}
use Rattle.ending.specs.Ending.{longest}
use Rattle.shell.specs.Edges.{label_room}
use Rattle.season_stream.specs.Reading.{Sane}
use Rattle.season.proofs.reading.read_stream.Given as goal

abbrev pub invariant-loop : goal.invariant-loop
invariant-loop l = record { sane : Sane l.reading; room : length l.piece ≡ longest; labelled : l.source.end ≤ label_room }
