-- `lists::octets` is safe: the front of its room is lent to be filled. Assumes nothing.
use Rattle.casefile.proofs.Lent.{lent}
use Rattle.figures_cases.proofs.lists.octets.Goals as goal

pub slice_bounds-numbers-end : goal.slice_bounds-numbers-end
slice_bounds-numbers-end c = c.requires.1

pub slice_bounds-octets-end : goal.slice_bounds-octets-end
slice_bounds-octets-end c = lent _ _ ((c.requires.1))

pub octets-requires : goal.octets-requires
octets-requires c = c.requires.0
