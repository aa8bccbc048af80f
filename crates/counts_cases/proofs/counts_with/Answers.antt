-- `counts_cases::counts_with` is safe and ends: the front of the room for weights is lent to be filled, then to be read. Assumes nothing.
use borrow.Author.Rules.{rules}
use Rattle.casefile.proofs.Lent.{lent, fits-again, lent_again}
use Rattle.counts_cases.proofs.counts_with.Goals as goal

pub slice_bounds-shorts-end : goal.slice_bounds-shorts-end
slice_bounds-shorts-end c = lent _ _ (search rules)

pub slice_bounds-weights-end-2 : goal.slice_bounds-weights-end-2
slice_bounds-weights-end-2 c =
    fits-again _ _ (search rules) c.shorts.new.into c.shorts.auto.into

pub slice_bounds-counts-end : goal.slice_bounds-counts-end
slice_bounds-counts-end c =
    lent_again _ _ (search rules) c.shorts.new.into c.shorts.auto.into
