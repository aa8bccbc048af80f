-- `lists::fulls` is safe: the front of its room is lent to be filled. Assumes nothing.
use Rattle.casefile.proofs.Lent.{lent}
use Rattle.figures_cases.proofs.lists.fulls.Goals as goal

pub slice_bounds-numbers-end : goal.slice_bounds-numbers-end
slice_bounds-numbers-end c = c.requires.1

pub slice_bounds-fulls-end : goal.slice_bounds-fulls-end
slice_bounds-fulls-end c = lent _ _ ((c.requires.1))

pub fulls-requires : goal.fulls-requires
fulls-requires c = c.requires.0
