-- `below` goes down the list while its last one is too high. Assumes nothing.
use Prim.Native.Nat.{◌<◌, ◌≤◌}
use Rattle.windows.specs.Groups.{count_at, entry_at}
use Rattle.windows.proofs.groups.below.Given as goal

abbrev pub invariant-loop-c : goal.invariant-loop-c
invariant-loop-c l = l.c < count_at l.table l.at → l.reach ≤ entry_at l.table l.at l.c
