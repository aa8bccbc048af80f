-- `lists_refusal` tries the boards' lists, then the numbers: past each that answers no, the refusal is that of what is
-- left. Assumes nothing.
use mathlib.Core.Path.{◌≡◌, sym, ap, ◌∙◌}
use mathlib.Core.List.{List, [], ◌∷◌}
use Prim.Native.Nat.{ℕ}
use native.Mathlib.Omega.{arith}
use lib.ListN.{length}
use Rattle.rules.specs.declared.Question.{Question}
use Rattle.rules.specs.Asked.{Asked, asked_of, unit_in, part_of, switchboards_of}
use Rattle.rules.specs.Refusal.{first_of, after, above_unit, refusal_in}
use Rattle.rules.proofs.Accepted.{in-stretch, first-of, first-after}
use Rattle.rules.proofs.Numbers.{number-some, handed_on}
use Rattle.rules.proofs.Unless.{after_none, after-some}
use Rattle.units.proofs.Laws.{whole-most}
use Rattle.asked.specs.Parts.{lists_refusal}
use Rattle.asked.proofs.Refused.{part-is, boards-first}
use Rattle.asked.proofs.lists_refusal.Goals as goal
use Rattle.asked.proofs.lists_refusal.Goals.{After-numbers_out, After-refusal}

-- what is asked, and 4 of it
abbrev asked : Question → (survival boards switchboards : List ℕ) → Asked
asked question survival boards switchboards = asked_of question survival [] [] boards switchboards

abbrev four : Asked → ℕ
four q = first_of ((4, above_unit (unit_in q) (part_of q) (switchboards_of q)) ∷ [])

-- the refusal by that of the boards' lists, and past it
boarded : (c : After-refusal) → let q = asked c.args.question c.args.lists.now.survival.now c.args.lists.now.boards.now c.args.lists.now.switchboards.now in
    lists_refusal c.args.question q.survival q.boards q.switchboards
    ≡ after (refusal_in c.refusal.result) (four q)
boarded c =
    let x = c.args in
    boards-first x.question x.lists.now.survival.now x.lists.now.boards.now x.lists.now.switchboards.now c.requires
    ∙ ap (λ r. after r (four (asked x.question x.lists.now.survival.now x.lists.now.boards.now x.lists.now.switchboards.now))) (sym c.refusal.ensures)

-- past them, the answer about the numbers
above : (c : After-numbers_out) → let q = asked c.args.question c.args.lists.now.survival.now c.args.lists.now.boards.now c.args.lists.now.switchboards.now in
    above_unit (unit_in q) (part_of q) (switchboards_of q) ≡ c.numbers_out.result
above c =
    let unit = c.whole-all.ensures ∙ c.is_decimal.ensures in
    let part = part-is _ _ _ _ c.requires in
    sym (c.numbers_out.ensures ∙ (λ i. above_unit (unit i) (part i) (c.numbers_read-own.ensures i)))

pub overflow_sub-from : goal.overflow_sub-from
overflow_sub-from c = omega (arith, in-stretch c.args.question.a c.args.question.b (length c.args.lists.now.survival.now) c.requires)

pub refusal-requires : goal.refusal-requires
refusal-requires c =
    let h = in-stretch c.args.question.a c.args.question.b (length c.args.lists.now.survival.now) c.requires in
    (omega arith, omega arith)

pub returns-in_err-refusal : goal.returns-in_err-refusal
returns-in_err-refusal c =
    handed_on _ _ c.from_residual.ensures.1
    (sym (boarded ((goal.at.returns-in_err-refusal c).After-refusal) ∙ after-some _ _ (λ none. number-some _ (sym (ap refusal_in c.in_err-refusal.was) ∙ none)) ∙ ap refusal_in c.in_err-refusal.was))

pub offset_bounds-lists-from : goal.offset_bounds-lists-from
offset_bounds-lists-from c = omega (arith, in-stretch c.args.question.a c.args.question.b (length c.args.lists.now.survival.now) c.requires)

pub slice_bounds-numbers_out-count : goal.slice_bounds-numbers_out-count
slice_bounds-numbers_out-count c = omega (arith, in-stretch c.args.question.a c.args.question.b (length c.args.lists.now.survival.now) c.requires)

pub numbers_out-requires : goal.numbers_out-requires
numbers_out-requires c = omega (arith, c.whole-all.ensures, whole-most c.is_decimal.result)

pub returns-then-numbers_out : goal.returns-then-numbers_out
returns-then-numbers_out c =
    sym (boarded ((goal.at.returns-then-numbers_out c).After-refusal)
    ∙ after_none _ _ (ap refusal_in c.in_ok-refusal.was)
    ∙ first-of 4 _ _ (above ((goal.at.returns-then-numbers_out c).After-numbers_out) ∙ c.if-numbers_out.true))

pub returns : goal.returns
unfolding first_of
returns c =
    sym (boarded ((goal.at.returns c).After-refusal)
    ∙ after_none _ _ (ap refusal_in c.in_ok-refusal.was)
    ∙ first-after 4 _ [] (above ((goal.at.returns c).After-numbers_out) ∙ c.if-numbers_out.false))
