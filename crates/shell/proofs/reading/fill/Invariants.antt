-- `reading::fill` meets its contract: reads go on while bytes come and the buffer has room. The measure is what is left of the buffer, of which every turn fills some. Assumes nothing.
use Rattle.std.proofs.Common.{length, ◌-◌}
use Rattle.shell.proofs.Took.{Filling}
use Rattle.shell.proofs.reading.fill.Given as goal

abbrev pub invariant-loop-filled : goal.invariant-loop-filled
invariant-loop-filled l = Filling (length l.initial.buffer) (length l.buffer) l.taken l.filled

abbrev pub decreases-loop-filled : goal.decreases-loop-filled
decreases-loop-filled l = length l.buffer - l.filled
