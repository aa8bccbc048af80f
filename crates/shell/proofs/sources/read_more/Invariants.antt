-- `sources::read_more` meets its contract: what was read lies within the buffer, whichever input it came from. Assumes nothing.
use Rattle.std.proofs.Common.{length, ◌≤◌, ◌≡◌}
use Rattle.shell.specs.Edges.{label_room}
use Rattle.shell.proofs.sources.read_more.Given as goal

abbrev pub invariant-loop : goal.invariant-loop
invariant-loop l = record { labelled : l.source.end ≤ label_room; kept : length l.buffer ≡ length l.initial.buffer }
