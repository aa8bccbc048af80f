-- `lines::put_system` meets its contract: the first entries of the arrays are the file's lists. Assumes nothing.
use mathlib.Core.Path.{◌≡◌, sym}
use mathlib.Core.List.{[]}
use native.Mathlib.Omega.{arith}
use lib.Seq.{length-take-le}
use Rattle.rules.specs.Asked.{question_of, asked_of}
use Rattle.rules.specs.File.{deck_in, system_in, asked_by}
use Rattle.deck.proofs.Kept.{few-fans, few-boards, few-systems, lent-survival, lent-weights, lent-numbers}
use Rattle.spare_lines.specs.System.{system_text}
use Rattle.deckspare.proofs.lines.put_system.Goals as goal

pub slice_bounds-survival-end : goal.slice_bounds-survival-end
slice_bounds-survival-end c = omega (arith, few-fans c.requires.placed.headed)

pub slice_bounds-lists-end : goal.slice_bounds-lists-end
slice_bounds-lists-end c = sym (length-take-le _ _ (omega (arith, few-fans c.requires.placed.headed)))

pub slice_bounds-weights-end : goal.slice_bounds-weights-end
slice_bounds-weights-end c = omega (arith, few-fans c.requires.placed.headed)

pub slice_bounds-lists-end-2 : goal.slice_bounds-lists-end-2
slice_bounds-lists-end-2 c = sym (length-take-le _ _ (omega (arith, few-fans c.requires.placed.headed)))

pub slice_bounds-switchboards-end : goal.slice_bounds-switchboards-end
slice_bounds-switchboards-end c = omega (arith, few-boards c.requires.placed.headed)

pub slice_bounds-lists-end-4 : goal.slice_bounds-lists-end-4
slice_bounds-lists-end-4 c = sym (length-take-le _ _ (omega (arith, few-boards c.requires.placed.headed)))

pub put_asked-requires : goal.put_asked-requires
put_asked-requires c =
    record { place = omega (arith, c.requires.placed.place, few-systems c.requires.placed.headed); room = c.requires.room }

pub returns : goal.returns
unfolding deck_in
returns c =
    let h = c.requires.placed.headed in
    let job = c.args.job in
    let survival = lent-survival h c.survival_in-survival.ensures in
    let weights = lent-weights h c.weights_in-weights.ensures in
    let numbers = lent-numbers h c.board_survival_in-switchboards.ensures in
    let version = h.says.version in
    let same : _ ≡ system_text job (asked_by (deck_in c.args.file.now) (system_in c.args.file.now job.s))
    = λ i. system_text job (asked_of (question_of (version i) (c.system_in-system.ensures i).rule (c.system_in-system.ensures i).a (c.system_in-system.ensures i).b) (survival i) (weights i) [] (c.boards_in-boards.ensures i) (numbers i)) in
    rw (← same) c.put_asked.ensures
