-- `next` makes a row out of the one below, in a sum that slides along. Assumes nothing.
use mathlib.Core.Path.{◌≡◌}
use Prim.Native.Nat.{suc, ◌+◌}
use Rattle.bins.specs.From.{bins, shift}
use Rattle.bins.specs.Cells.{Stored}
use Rattle.places.specs.Map.{bin_row}
use Rattle.bins.proofs.next.Given as goal

abbrev pub invariant-loop-j : goal.invariant-loop-j
invariant-loop-j l = (l.held ≡ shift (bins l.k (suc l.b)) 1 l.j) × Stored (bins l.k (suc l.b)) (l.from + bin_row) 0 l.j l.initial.table l.table
