-- `lists::longs` is safe: the front of its room is lent to be filled. Assumes nothing.
use Rattle.casefile.proofs.Lent.{lent}
use Rattle.figures_cases.proofs.lists.longs.Goals as goal

pub slice_bounds-numbers-end : goal.slice_bounds-numbers-end
slice_bounds-numbers-end c = c.requires.1

pub slice_bounds-longs-end : goal.slice_bounds-longs-end
slice_bounds-longs-end c = lent _ _ ((c.requires.1))

pub longs-requires : goal.longs-requires
longs-requires c = c.requires.0
