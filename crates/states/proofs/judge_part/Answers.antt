-- `judge_part` meets its contract: refused, or the verdict over the stretch where it stands. Assumes nothing.
use mathlib.Core.Path.{◌≡◌, sym, ap, ◌∙◌}
use mathlib.Core.List.{[]}
use Prim.Native.Nat.{suc, ◌-◌, ◌≤◌}
use native.Mathlib.Omega.{arith}
use lib.ListN.{length}
use borrow.Author.Tests.{not-false}
use Rattle.rules.specs.declared.Verdict.TheVariants.{Refused}
use Rattle.rules.specs.Refusal.{most}
use Rattle.rules.specs.Answer.{verdict_of}
use Rattle.rules.proofs.EachKind.{within-true}
use Rattle.rules.proofs.Numbers.{number-some}
use Rattle.rules.proofs.Unless.{unless-none, unless-some}
use Rattle.asked.specs.Parts.{place_refusal}
use Rattle.asked.proofs.Refused.{Placed, placed, part-is}
use Rattle.verdict.proofs.Outcome.{verdict-is}
use Rattle.states.specs.States.{on_deck, part_verdict}
use Rattle.states.proofs.Places.{few-places}
use borrow.Author.Rules.{rules}
use Rattle.states.proofs.judge_part.Goals as goal
use Rattle.states.proofs.judge_part.Goals.{In_default}

-- what the first test leaves
none : (c : In_default) → let x = c.args in place_refusal x.system.rule x.system.a x.system.b (length x.weights.now) ≡ 0
none c = sym c.in_default.ensures

sound : (c : In_default) → let x = c.args in Placed x.system.rule x.system.a x.system.b (length x.weights.now)
sound c = placed _ _ _ _ (none c)

few : (c : In_default) → length c.args.weights.now ≤ most
few c = (within-true 1 _ most (not-false _ (sound c).size)).1

pub returns-in-Err : goal.returns-in-Err
unfolding part_verdict
returns-in-Err c =
    ap Refused (c.number.ensures ∙ c.in-Err.ensures) ∙ sym (unless-some _ _ _ (λ z. number-some _ (c.in-Err.ensures ∙ z)))

pub overflow_sub-from : goal.overflow_sub-from
overflow_sub-from c = omega (arith, (sound ((goal.at.overflow_sub-from c).In_default)).fits)

pub state_in-seen-requires : goal.state_in-seen-requires
state_in-seen-requires c = ((sound ((goal.at.state_in-seen-requires c).In_default)).fits.0, (sound ((goal.at.state_in-seen-requires c).In_default)).fits.1, omega (arith, (sound ((goal.at.state_in-seen-requires c).In_default)).fits, few ((goal.at.state_in-seen-requires c).In_default)))

pub overflow_sub-upto : goal.overflow_sub-upto
overflow_sub-upto c = omega (arith, (sound ((goal.at.overflow_sub-upto c).In_default)).fits)

pub offset_bounds-weights-from : goal.offset_bounds-weights-from
offset_bounds-weights-from c = omega (arith, (sound ((goal.at.offset_bounds-weights-from c).In_default)).fits, few ((goal.at.offset_bounds-weights-from c).In_default))

pub slice_bounds-verdict_on-count : goal.slice_bounds-verdict_on-count
slice_bounds-verdict_on-count c = omega (arith, (sound ((goal.at.slice_bounds-verdict_on-count c).In_default)).fits)

pub slice_bounds-verdict_on-start : goal.slice_bounds-verdict_on-start
slice_bounds-verdict_on-start c = omega (arith, (sound ((goal.at.slice_bounds-verdict_on-start c).In_default)).fits)

pub slice_bounds-verdict_on-end : goal.slice_bounds-verdict_on-end
slice_bounds-verdict_on-end c = omega (arith, (sound ((goal.at.slice_bounds-verdict_on-end c).In_default)).fits)

pub on_deck-requires : goal.on_deck-requires
on_deck-requires c =
    let fit = (sound ((goal.at.on_deck-requires c).In_default)).fits in
    record { start = (fit.0, omega (arith, fit, few ((goal.at.on_deck-requires c).In_default))); few = few-places _ _ _ _ _ _ c.verdict_on-verdict.ensures (omega (arith, fit, few ((goal.at.on_deck-requires c).In_default))) }

pub returns : goal.returns
unfolding part_verdict
returns c =
    let fit = (sound ((goal.at.returns c).In_default)).fits in
    let size : c.args.system.b - (c.args.system.a - 1) ≡ suc c.args.system.b - c.args.system.a = omega (arith, fit) in
    let part = part-is c.args.system.a c.args.system.b (length c.args.weights.now) c.args.weights.now (sound ((goal.at.returns c).In_default)).inside in
    c.on_deck.ensures
    ∙ ap (on_deck c.args.system.a) (verdict-is c.verdict_on-verdict.ensures)
    ∙ (λ y. on_deck c.args.system.a (verdict_of c.args.system.rule (size y) (part y) [] (c.state_in-seen.ensures y)))
    ∙ sym (unless-none _ _ _ (none ((goal.at.returns c).In_default)))
