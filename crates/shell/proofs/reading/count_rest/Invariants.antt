-- `reading::count_rest` meets its contract: reads go on while bytes come and the count is below the most. The measure is what that leaves, which every turn makes less. Assumes nothing.
use Rattle.std.proofs.Common.{length, ◌-◌, ◌^◌}
use Rattle.shell.proofs.Took.{Counting}
use Rattle.shell.proofs.reading.count_rest.Given as goal

abbrev pub invariant-loop-count : goal.invariant-loop-count
invariant-loop-count l = Counting (length l.passing) l.taken l.count

abbrev pub decreases-loop-count : goal.decreases-loop-count
decreases-loop-count l = 2 ^ 62 - l.count
