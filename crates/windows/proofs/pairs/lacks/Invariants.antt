-- `lacks` takes one pair off the list a turn. Assumes nothing.
use mathlib.Core.Path.{◌≡◌}
use Prim.Native.Nat.{◌≤◌}
use Rattle.std.specs.Slice.Iter.{chunks_exact_rest, chunks_exact_size}
use Rattle.rules.specs.Memory.{longest, lacking_last}
use Rattle.rules.specs.Pairs.{pairs_in, any_of, longest_window}
use Rattle.windows.proofs.pairs.lacks.Given as goal

abbrev pub invariant-loop-pair : goal.invariant-loop-pair
invariant-loop-pair l = record {
  by_two : chunks_exact_size l.pair-iterator ≡ 2;
  short : longest (pairs_in (chunks_exact_rest l.pair-iterator)) ≤ longest_window;
  as_far : any_of (lacking_last l.m.bits) (pairs_in (chunks_exact_rest l.pair-iterator)) ≡ any_of (lacking_last l.m.bits) (pairs_in l.more);
}
