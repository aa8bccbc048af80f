-- `deck::counts_refusal` meets its contract: past a check that answered no, the refusal is that of the checks after it. Assumes nothing.
use mathlib.Core.Path.{sym, ◌∙◌}
use mathlib.Core.List.{[]}
use Rattle.rules.proofs.Accepted.{first-of, first-after}
use Rattle.deck.specs.Head.{counts_refusal}
use Rattle.deck.proofs.Checks.{none_left}
use Rattle.deck.proofs.counts_refusal.Goals as goal

pub returns-then-outside : goal.returns-then-outside
unfolding counts_refusal
returns-then-outside c = sym (first-of 2 _ _ (sym c.outside.ensures ∙ c.if-outside.true))

pub returns-then-outside-2 : goal.returns-then-outside-2
unfolding counts_refusal
returns-then-outside-2 c =
    sym
    (first-after 2 _ _ (sym c.outside.ensures ∙ c.if-outside.false)
    ∙ first-of 12 _ _ (sym c.outside-2.ensures ∙ c.if-outside-2.true))

pub returns-then-boards_out : goal.returns-then-boards_out
unfolding counts_refusal
returns-then-boards_out c =
    sym
    (first-after 2 _ _ (sym c.outside.ensures ∙ c.if-outside.false)
    ∙ first-after 12 _ _ (sym c.outside-2.ensures ∙ c.if-outside-2.false)
    ∙ first-of 20 _ _ (sym c.boards_out.ensures ∙ c.if-boards_out.true))

pub returns : goal.returns
unfolding counts_refusal
returns c =
    sym
    (first-after 2 _ _ (sym c.outside.ensures ∙ c.if-outside.false)
    ∙ first-after 12 _ _ (sym c.outside-2.ensures ∙ c.if-outside-2.false)
    ∙ first-after 20 _ [] (sym c.boards_out.ensures ∙ c.if-boards_out.false)
    ∙ none_left)
