-- `numbers::point` meets its contract: no byte that was passed is a point. Assumes nothing.
use mathlib.Core.Path.{◌≡◌}
use Prim.Native.Nat.{◌+◌}
use lib.ListN.{drop}
use Rattle.grammar.specs.Numbers.{point_in}
use Rattle.grammar.proofs.numbers.point.Given as goal

abbrev pub invariant-loop-i : goal.invariant-loop-i
invariant-loop-i l = point_in l.word ≡ l.i + point_in (drop l.i l.word)
