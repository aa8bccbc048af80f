-- `system::system_why` meets its contract: the first entries of the arrays are the file's lists. Assumes nothing.
use mathlib.Core.Path.{◌≡◌, sym, ◌∙◌}
use native.Mathlib.Omega.{arith}
use lib.ListN.{length, take}
use lib.Seq.{length-take-le}
use Rattle.rules.specs.File.{deck_in}
use Rattle.deck.proofs.Kept.{few-fans, few-boards, lent-survival, lent-weights, lent-numbers}
use Rattle.advice.specs.System.{why_of, system_why}
use Rattle.advice.proofs.system.system_why.Goals as goal

pub slice_bounds-survival-end : goal.slice_bounds-survival-end
slice_bounds-survival-end c =
    omega (arith, few-fans c.requires.headed)

pub slice_bounds-lists_why-end : goal.slice_bounds-lists_why-end
slice_bounds-lists_why-end c = sym (length-take-le _ _ (omega (arith, few-fans c.requires.headed)))

pub slice_bounds-weights-end : goal.slice_bounds-weights-end
slice_bounds-weights-end c =
    omega (arith, few-fans c.requires.headed)

pub slice_bounds-lists_why-end-2 : goal.slice_bounds-lists_why-end-2
slice_bounds-lists_why-end-2 c = sym (length-take-le _ _ (omega (arith, few-fans c.requires.headed)))

pub slice_bounds-switchboards-end : goal.slice_bounds-switchboards-end
slice_bounds-switchboards-end c =
    omega (arith, few-boards c.requires.headed)

pub slice_bounds-lists_why-end-3 : goal.slice_bounds-lists_why-end-3
slice_bounds-lists_why-end-3 c = sym (length-take-le _ _ (omega (arith, few-boards c.requires.headed)))

pub lists_why-requires : goal.lists_why-requires
lists_why-requires c =
    let fans : length (take c.args.head.fans c.survival_in-survival.result) ≡ c.args.head.fans = length-take-le _ _ (omega (arith, few-fans c.requires.headed)) in
    let weights : length (take c.args.head.fans c.weights_in-weights.result) ≡ c.args.head.fans = length-take-le _ _ (omega (arith, few-fans c.requires.headed)) in
    let boards : length (take c.args.head.boards c.board_survival_in-switchboards.result) ≡ c.args.head.boards = length-take-le _ _ (omega (arith, few-boards c.requires.headed)) in
    record { alike = weights ∙ sym fans; few = (omega (arith, fans, few-fans c.requires.headed), omega (arith, boards, few-boards c.requires.headed)) }

pub returns : goal.returns
unfolding system_why deck_in
returns c =
    let survival = lent-survival c.requires.headed c.survival_in-survival.ensures in
    let weights = lent-weights c.requires.headed c.weights_in-weights.ensures in
    let numbers = lent-numbers c.requires.headed c.board_survival_in-switchboards.ensures in
    c.lists_why.ensures
    ∙ (λ i. why_of (c.requires.headed.says.version i) (c.system_in-system.ensures i) c.args.number (survival i) (weights i) (numbers i))
