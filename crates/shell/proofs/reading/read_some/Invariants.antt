-- `reading::read_some` meets its contract: what was read lies within the buffer. Assumes nothing.
use Rattle.std.proofs.Common.{◌≡◌, length}
use Rattle.shell.proofs.reading.read_some.Given as goal

abbrev pub invariant-loop : goal.invariant-loop
invariant-loop l = length l.buffer ≡ length l.initial.buffer
