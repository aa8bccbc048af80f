-- `deck::body_refusal` meets its contract: the counts' refusal, then 13, then 21. Assumes nothing.
use mathlib.Core.Path.{◌≡◌, sym, ap, ◌∙◌}
use mathlib.Core.List.{[]}
use Rattle.rules.specs.Refusal.{refusal_in}
use Rattle.rules.proofs.Numbers.{number-some, handed_on}
use Rattle.rules.proofs.Unless.{after_none, after-some}
use Rattle.rules.proofs.Accepted.{first-of, first-after}
use Rattle.deck.specs.Head.{head_of, counts_refusal}
use Rattle.deck.specs.Outcome.{body_refusal}
use Rattle.deck.proofs.Checks.{none_left}
use Rattle.deck.proofs.Outcome.{head-is}
use Rattle.deck.proofs.body_refusal.Goals as goal
use Rattle.deck.proofs.body_refusal.Goals.{After-counts_refusal}

counted : (c : After-counts_refusal) → refusal_in c.counts_refusal.result ≡ counts_refusal (head_of c.args.bytes.now)
counted c = c.counts_refusal.ensures ∙ ap counts_refusal (head-is c.requires.says)

pub returns-in_err-counts_refusal : goal.returns-in_err-counts_refusal
unfolding body_refusal
returns-in_err-counts_refusal c =
    let e = sym (ap refusal_in c.in_err-counts_refusal.was) ∙ counted ((goal.at.returns-in_err-counts_refusal c).After-counts_refusal) in
    handed_on _ _ c.from_residual.ensures.1 (e ∙ sym (after-some _ _ (λ z. number-some _ (e ∙ z))))

pub returns-then-bad_layout : goal.returns-then-bad_layout
unfolding body_refusal
returns-then-bad_layout c =
    let none = sym (counted ((goal.at.returns-then-bad_layout c).After-counts_refusal)) ∙ ap refusal_in c.in_ok-counts_refusal.was in
    sym (after_none _ _ none ∙ first-of 13 _ _ (sym c.bad_layout.ensures ∙ c.if-bad_layout.true))

pub misplaced-requires : goal.misplaced-requires
misplaced-requires c =
    record { given = c.requires; laid = sym c.bad_layout.ensures ∙ c.if-bad_layout.false }

pub returns-then-misplaced : goal.returns-then-misplaced
unfolding body_refusal
returns-then-misplaced c =
    let none = sym (counted ((goal.at.returns-then-misplaced c).After-counts_refusal)) ∙ ap refusal_in c.in_ok-counts_refusal.was in
    sym
    (after_none _ _ none
    ∙ first-after 13 _ _ (sym c.bad_layout.ensures ∙ c.if-bad_layout.false)
    ∙ first-of 21 _ _ (sym c.misplaced.ensures ∙ c.if-misplaced.true))

pub returns : goal.returns
unfolding body_refusal
returns c =
    let none = sym (counted ((goal.at.returns c).After-counts_refusal)) ∙ ap refusal_in c.in_ok-counts_refusal.was in
    sym
    (after_none _ _ none
    ∙ first-after 13 _ _ (sym c.bad_layout.ensures ∙ c.if-bad_layout.false)
    ∙ first-after 21 _ [] (sym c.misplaced.ensures ∙ c.if-misplaced.false)
    ∙ none_left)
