-- `failing` is 0 where the pattern must work. Assumes nothing.
use Rattle.windows.proofs.row.failing.Goals as goal

pub read_small-requires : goal.read_small-requires
read_small-requires c = c.requires c.if-must.false

pub returns : goal.returns
returns c = rw c.if-must.false c.read_small.ensures
