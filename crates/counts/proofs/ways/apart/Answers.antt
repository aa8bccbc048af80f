-- `apart` is one lookup. Assumes nothing.
use Rattle.counts.specs.Ways.{apart_of}
use Rattle.counts.proofs.ways.apart.Goals as goal

pub returns : goal.returns
unfolding apart_of
returns c = rw c.saturating_sub.ensures at c.left.ensures
