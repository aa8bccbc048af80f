-- `lists::shorts` is safe: the front of its room is lent to be filled. Assumes nothing.
use Rattle.casefile.proofs.Lent.{lent}
use Rattle.figures_cases.proofs.lists.shorts.Goals as goal

pub slice_bounds-numbers-end : goal.slice_bounds-numbers-end
slice_bounds-numbers-end c = c.requires.1

pub slice_bounds-shorts-end : goal.slice_bounds-shorts-end
slice_bounds-shorts-end c = lent _ _ ((c.requires.1))

pub shorts-requires : goal.shorts-requires
shorts-requires c = c.requires.0
