-- `lacks` takes one pair off the list a turn. Assumes nothing.
use mathlib.Core.Path.{◌≡◌, sym, ◌∙◌}
use mathlib.Core.List.{◌∷◌}
use native.Mathlib.Omega.{arith}
use lib.ListN.{get_or}
use Rattle.std.specs.Slice.Iter.{chunks_exact_rest}
use Rattle.rules.specs.Pairs.{pair_of, pairs_in, any_of}
use Rattle.windows.proofs.Asking.{front, none, short-next, lacks-first, lacks-further}
use Rattle.windows.proofs.pairs.lacks.Goals as goal
use Rattle.windows.proofs.pairs.lacks.Goals.{In-Some}

-- the pair that is looked at is the first of those that are left
turn : (c : In-Some) → let x = c.in-Some.pair.now in
    pairs_in (chunks_exact_rest c.loop-pair.pair-iterator) ≡ pair_of (get_or x 0 0) (get_or x 1 0) ∷ pairs_in (chunks_exact_rest c.next.new.self)
turn c = let h = c.in-Some.ensures.steps in front _ _ h.1.0 (h.1.1 ∙ c.loop-pair.invariant.by_two)

pub returns-then-lacks : goal.returns-then-lacks
returns-then-lacks c = sym (lacks-first _ _ _ _ (sym c.lacks.ensures ∙ c.if-lacks.true))

pub lacks-requires-in-loop-pair : goal.lacks-requires-in-loop-pair
lacks-requires-in-loop-pair c = (short-next (turn ((goal.at.lacks-requires-in-loop-pair c).In-Some)) c.loop-pair.invariant.short).0

pub returns-then-lacks-2 : goal.returns-then-lacks-2
unfolding any_of
returns-then-lacks-2 c =
    let further = lacks-further c.args.first c.args.second c.args.more.now c.args.m.bits (sym c.lacks.ensures ∙ c.if-lacks.false) in
    rw (further, ← c.loop-pair.invariant.as_far, turn ((goal.at.returns-then-lacks-2 c).In-Some), ← c.lacks-in-loop-pair.ensures, c.if-lacks-2.true)

pub loop-pair-preserved : goal.loop-pair-preserved
unfolding any_of
loop-pair-preserved c =
    let e = turn ((goal.at.loop-pair-preserved c).In-Some) in
    record {
      by_two = c.in-Some.ensures.steps.0 ∙ c.loop-pair.invariant.by_two;
      short = (short-next e c.loop-pair.invariant.short).1;
      as_far = rw (← c.loop-pair.invariant.as_far, e, ← c.lacks-in-loop-pair.ensures, c.if-lacks-2.false);
    }

pub returns : goal.returns
unfolding any_of
returns c =
    let further = lacks-further c.args.first c.args.second c.args.more.now c.args.m.bits (sym c.lacks.ensures ∙ c.if-lacks.false) in
    let e = none (chunks_exact_rest c.loop-pair.pair-iterator) (omega (arith, c.in-None.ensures.steps.1.0, c.loop-pair.invariant.by_two)) in
    rw (further, ← c.loop-pair.invariant.as_far, e)
