-- `best::next_best` meets its contract: the best so far is a place or the end. Assumes nothing.
use Prim.Native.Nat.{◌≤◌}
use Rattle.drawn.specs.Drawn.{most_drawn}
use Rattle.telling.proofs.best.next_best.Given as goal

abbrev pub invariant-loop-i : goal.invariant-loop-i
invariant-loop-i l = l.best ≤ most_drawn
