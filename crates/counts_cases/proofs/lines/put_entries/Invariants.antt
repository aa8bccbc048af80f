-- `lines::put_entries` meets its contract: the entries so far stand within the buffer. Assumes nothing.
use Prim.Native.Nat.{◌≤◌}
use lib.ListN.{length}
use Rattle.counts_cases.proofs.lines.put_entries.Given as goal

abbrev pub invariant-loop-j : goal.invariant-loop-j
invariant-loop-j l = l.end ≤ length l.out
