-- `verdict_cases::judged` is safe and ends: the front of each room is lent to be filled, then to be read. Assumes nothing.
use borrow.Author.Rules.{rules}
use Rattle.casefile.proofs.Lent.{lent, fits-again, lent_again}
use Rattle.verdict_cases.proofs.judged.Goals as goal

pub slice_bounds-shorts-end : goal.slice_bounds-shorts-end
slice_bounds-shorts-end c = lent _ _ (search rules)

pub slice_bounds-fulls-end : goal.slice_bounds-fulls-end
slice_bounds-fulls-end c = lent _ _ (search rules)

pub slice_bounds-weights-end-2 : goal.slice_bounds-weights-end-2
slice_bounds-weights-end-2 c =
    fits-again _ _ (search rules) c.shorts.new.into c.shorts.auto.into

pub slice_bounds-asked-end : goal.slice_bounds-asked-end
slice_bounds-asked-end c =
    lent_again _ _ (search rules) c.shorts.new.into c.shorts.auto.into

pub slice_bounds-more-end-2 : goal.slice_bounds-more-end-2
slice_bounds-more-end-2 c =
    fits-again _ _ (search rules) c.fulls.new.into c.fulls.auto.into

pub slice_bounds-asked-end-2 : goal.slice_bounds-asked-end-2
slice_bounds-asked-end-2 c =
    lent_again _ _ (search rules) c.fulls.new.into c.fulls.auto.into
