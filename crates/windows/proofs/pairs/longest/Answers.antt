-- `longest` takes one pair off the list a turn. Assumes nothing.
use mathlib.Core.Path.{sym, ◌∙◌}
use native.Mathlib.Omega.{arith}
use Rattle.windows.proofs.Asking.{front, none, longest-next, longest-last}
use Rattle.windows.proofs.pairs.longest.Goals as goal

pub loop-pair-preserved : goal.loop-pair-preserved
loop-pair-preserved c =
    let h = c.in-Some.ensures.steps in
    let e = front _ _ h.1.0 (h.1.1 ∙ c.loop-pair.invariant.by_two) in
    record { by_two = h.0 ∙ c.loop-pair.invariant.by_two; as_far = longest-next _ _ e (omega arith) ∙ c.loop-pair.invariant.as_far }

pub returns : goal.returns
returns c =
    let e = none _ (omega (arith, c.in-None.ensures.steps.1.0, c.loop-pair.invariant.by_two)) in
    sym (longest-last _ e) ∙ c.loop-pair.invariant.as_far
