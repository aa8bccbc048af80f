-- `dies` is `lacks` with a failed one more read. Assumes nothing.
use Rattle.memory.specs.Pattern.{dies}
use Rattle.windows.proofs.pairs.dies.Goals as goal

pub returns : goal.returns
unfolding dies
returns c = rw c.failed.ensures at c.lacks.ensures
