-- `bars::put_labels` meets its contract: the numbers so far end within the buffer. Assumes nothing.
use Prim.Native.Nat.{◌≤◌}
use lib.ListN.{length}
use Rattle.drawing.proofs.bars.put_labels.Given as goal

abbrev pub invariant-loop-fan : goal.invariant-loop-fan
invariant-loop-fan l = (l.end ≤ length l.out)
