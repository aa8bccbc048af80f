-- `begin` writes the memory with no components left. Assumes nothing.
use Rattle.gaps.proofs.Reaching.{begun}
use Rattle.gaps.proofs.free.begin.Goals as goal

pub returns : goal.returns
returns c =
    begun c.requires c.works.ensures c.end_value.ensures c.write.ensures
