-- `fill` makes the rows one by one. Assumes nothing.
use native.Mathlib.Omega.{arith}
use Rattle.bins.proofs.Cells.{outside-none, outside-then}
use Rattle.bins.proofs.Filling.{first-row, rows-fewer}
use Rattle.bins.proofs.fill.Goals as goal

pub loop-b-init : goal.loop-b-init
loop-b-init c = record { filled = (first-row c.requires c.zero.ensures).filled; rest = outside-none }

pub returns-2 : goal.returns-2
returns-2 c =
    let rest = outside-then (first-row c.requires c.zero.ensures).rest (outside-then c.loop-b.invariant.rest c.next.ensures.rest) in
    record { filled = rows-fewer (omega arith) c.next.ensures.filled; rest = rest }
