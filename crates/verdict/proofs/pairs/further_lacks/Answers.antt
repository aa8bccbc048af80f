-- `verdict::pairs::further_lacks` meets its contract: none of the pairs that were passed lacks, so some does where one of those not yet read does.
-- Assumes nothing.
use mathlib.Core.Path.{◌≡◌, ap, ◌∙◌}
use mathlib.Core.List.{◌∷◌}
use lib.ListN.{get_or}
use native.Mathlib.Omega.{arith}
use Rattle.std.specs.Slice.Iter.{chunks_exact_rest}
use Rattle.rules.specs.Pairs.{pair_of, pairs_in, any_of}
use Rattle.refusals.proofs.Twos.{short, front}
use Rattle.verdict.proofs.InRange.{alone, rest}
use Rattle.verdict.proofs.pairs.further_lacks.Goals as goal
use Rattle.verdict.proofs.pairs.further_lacks.Goals.{In-Some}

-- the pair that is looked at is the first of those that are left
turn : (c : In-Some) → let x = c.in-Some.pair.now in
    pairs_in (chunks_exact_rest c.loop-pair.pair-iterator) ≡ pair_of (get_or x 0 0) (get_or x 1 0) ∷ pairs_in (chunks_exact_rest c.next.new.self)
turn c =
    let h = c.in-Some.ensures.steps in
    ap pairs_in h.1.0 ∙ front c.in-Some.pair.now _ (h.1.1 ∙ c.loop-pair.invariant.by_two)

pub lacks-requires : goal.lacks-requires
lacks-requires c = alone (rw (turn ((goal.at.lacks-requires c).In-Some)) at c.loop-pair.invariant.handed)

pub returns-then-lacks : goal.returns-then-lacks
unfolding any_of
returns-then-lacks c = rw (← c.loop-pair.invariant.as_far, turn ((goal.at.returns-then-lacks c).In-Some), ← c.lacks.ensures, c.if-lacks.true)

pub loop-pair-preserved : goal.loop-pair-preserved
unfolding any_of
loop-pair-preserved c =
    let e = turn ((goal.at.loop-pair-preserved c).In-Some) in
    record {
      by_two = c.in-Some.ensures.steps.0 ∙ c.loop-pair.invariant.by_two;
      as_far = rw (← c.loop-pair.invariant.as_far, e, ← c.lacks.ensures, c.if-lacks.false);
      handed = rest (rw e at c.loop-pair.invariant.handed);
    }

pub returns : goal.returns
unfolding any_of
returns c =
    let h = c.in-None.ensures.steps in
    rw (← c.loop-pair.invariant.as_far, short (chunks_exact_rest c.loop-pair.pair-iterator) (omega (arith, h.1.0, c.loop-pair.invariant.by_two)))
