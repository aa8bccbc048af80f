-- `longest` takes one pair off the list a turn. Assumes nothing.
use mathlib.Core.Path.{◌≡◌}
use Prim.Native.Nat.{max}
use Rattle.std.specs.Slice.Iter.{chunks_exact_rest, chunks_exact_size}
use Rattle.rules.specs.Memory.{longest}
use Rattle.rules.specs.Pairs.{pairs_in}
use Rattle.windows.specs.Asked.{farthest}
use Rattle.windows.proofs.pairs.longest.Given as goal

abbrev pub invariant-loop-pair : goal.invariant-loop-pair
invariant-loop-pair l = record {
  by_two : chunks_exact_size l.pair-iterator ≡ 2;
  as_far : max l.r (longest (pairs_in (chunks_exact_rest l.pair-iterator))) ≡ farthest l.second l.more;
}
