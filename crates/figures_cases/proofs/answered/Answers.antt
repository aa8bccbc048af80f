-- `answered` is safe and ends: each list is read to the front of a room, and lent. Assumes nothing.
use borrow.Author.Rules.{rules}
use Rattle.casefile.proofs.Lent.{lent}
use Rattle.figures_cases.proofs.answered.Goals as goal

pub slice_bounds-read-end : goal.slice_bounds-read-end
slice_bounds-read-end c = lent _ _ ((search rules))

pub slice_bounds-read-end-2 : goal.slice_bounds-read-end-2
slice_bounds-read-end-2 c = lent _ _ ((search rules))

pub slice_bounds-read-end-3 : goal.slice_bounds-read-end-3
slice_bounds-read-end-3 c = lent _ _ ((search rules))

pub slice_bounds-read-end-4 : goal.slice_bounds-read-end-4
slice_bounds-read-end-4 c = lent _ _ ((search rules))

pub slice_bounds-read-end-5 : goal.slice_bounds-read-end-5
slice_bounds-read-end-5 c = lent _ _ ((search rules))
