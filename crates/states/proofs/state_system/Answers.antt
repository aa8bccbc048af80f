-- `state_system` meets its contract: the first entries of the array are the file's weights. Assumes nothing.
use mathlib.Core.Path.{◌≡◌, sym, ap, ◌∙◌}
use mathlib.Core.List.{List}
use Prim.Native.Nat.{ℕ}
use native.Mathlib.Omega.{arith}
use lib.ListN.{length}
use lib.Seq.{length-take-le}
use Rattle.rules.specs.File.{fans_in, system_in, deck_in}
use Rattle.rules.proofs.Lists.{below_length}
use Rattle.deck.proofs.Kept.{few-fans, lent-weights}
use Rattle.states.specs.States.{part_verdict}
use borrow.Author.Rules.{rules}
use Rattle.states.proofs.state_system.Goals as goal

pub slice_bounds-weights-end : goal.slice_bounds-weights-end
slice_bounds-weights-end c = omega (arith, few-fans c.requires.headed)

pub slice_bounds-judge_part-end : goal.slice_bounds-judge_part-end
slice_bounds-judge_part-end c = sym (length-take-le _ _ (omega (arith, few-fans c.requires.headed)))

-- a file has a weight for each of its fans
as_many : (bytes : List ℕ) → length (deck_in bytes).weights ≡ length (deck_in bytes).survival
unfolding deck_in
as_many bytes = below_length (fans_in bytes) _ ∙ sym (below_length (fans_in bytes) _)

pub returns : goal.returns
returns c =
    let weights = lent-weights c.requires.headed c.weights_in-weights.ensures in
    c.judge_part.ensures
    ∙ (λ x. part_verdict (c.system_in-system.ensures x) (length (weights x)) (weights x) c.args.state)
    ∙ ap (λ n. part_verdict (system_in c.args.file.now c.args.s) n (deck_in c.args.file.now).weights c.args.state) (as_many c.args.file.now)
