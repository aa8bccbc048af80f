-- `systems::rate` meets its contract: the first entries of the arrays are the file's lists. Assumes nothing.
use mathlib.Core.Path.{sym, ◌∙◌}
use mathlib.Core.List.{[]}
use native.Mathlib.Omega.{arith}
use lib.ListN.{replicate}
use lib.Seq.{length-take-le}
use Rattle.rules.specs.Asked.{question_of, asked_of}
use Rattle.rules.specs.Refusal.{cells}
use Rattle.rules.specs.Answer.{figures_of}
use Rattle.rules.specs.File.{deck_in, system_of}
use Rattle.deck.proofs.Kept.{few-fans, few-boards, lent-survival, lent-weights, lent-numbers}
use borrow.Author.Rules.{rules}
use Rattle.systems.proofs.rate.Goals as goal

pub slice_bounds-survival-end : goal.slice_bounds-survival-end
slice_bounds-survival-end c =
    omega (arith, few-fans c.requires.headed)

pub slice_bounds-lists-end : goal.slice_bounds-lists-end
slice_bounds-lists-end c = sym (length-take-le _ _ ((omega (arith, few-fans c.requires.headed))))

pub slice_bounds-weights-end : goal.slice_bounds-weights-end
slice_bounds-weights-end c =
    omega (arith, few-fans c.requires.headed)

pub slice_bounds-lists-end-2 : goal.slice_bounds-lists-end-2
slice_bounds-lists-end-2 c = sym (length-take-le _ _ ((omega (arith, few-fans c.requires.headed))))

pub slice_bounds-switchboards-end : goal.slice_bounds-switchboards-end
slice_bounds-switchboards-end c =
    omega (arith, few-boards c.requires.headed)

pub slice_bounds-lists-end-4 : goal.slice_bounds-lists-end-4
slice_bounds-lists-end-4 c = sym (length-take-le _ _ ((omega (arith, few-boards c.requires.headed))))

pub returns : goal.returns
unfolding system_of deck_in
returns c =
    let survival = lent-survival c.requires.headed c.survival_in-survival.ensures in
    let weights = lent-weights c.requires.headed c.weights_in-weights.ensures in
    let numbers = lent-numbers c.requires.headed c.board_survival_in-switchboards.ensures in
    c.rate_lists.ensures
    ∙ (λ i. figures_of (asked_of (question_of (c.requires.headed.says.version i) (c.system_in-system.ensures i).rule (c.system_in-system.ensures i).a (c.system_in-system.ensures i).b) (survival i) (weights i) [] (c.boards_in-boards.ensures i) (numbers i)) (replicate cells 0))
