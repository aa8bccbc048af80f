-- `tell_wrong` meets its contract: the line fits. Assumes nothing.
use Rattle.text.proofs.Adding.{added-counts}
use Rattle.deckstate.proofs.tell_wrong.Goals as goal

pub slice_bounds-line-end : goal.slice_bounds-line-end
slice_bounds-line-end c = (added-counts c.put_wrong-end.ensures).0

pub slice_bounds-say-end : goal.slice_bounds-say-end
slice_bounds-say-end c = (added-counts c.put_wrong-end.ensures).1
