-- `verdict::pairs::further_lacks` meets its contract: none of the pairs that were passed lacks, so some does where one of those not yet read does.
-- Assumes nothing.
use mathlib.Core.Path.{◌≡◌}
use Rattle.std.specs.Slice.Iter.{chunks_exact_rest, chunks_exact_size}
use Rattle.rules.specs.Pairs.{pairs_in, any_of, lacking_from}
use Rattle.verdict.specs.Pairs.{From}
use Rattle.verdict.proofs.pairs.further_lacks.Given as goal

abbrev pub invariant-loop-pair : goal.invariant-loop-pair
invariant-loop-pair l = record {
  by_two : chunks_exact_size l.pair-iterator ≡ 2;
  as_far : any_of (lacking_from l.n l.w l.a) (pairs_in (chunks_exact_rest l.pair-iterator)) ≡ any_of (lacking_from l.n l.w l.a) (pairs_in l.more);
  handed : From l.n l.w l.a (pairs_in (chunks_exact_rest l.pair-iterator));
}
