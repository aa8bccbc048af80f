-- `list_of` asks of the older one what its list hangs on. Assumes nothing.
use Rattle.windows.proofs.groups.list_of.Goals as goal

pub lacks-requires : goal.lacks-requires
lacks-requires c = c.requires.windows

pub list_at-requires : goal.list_at-requires
list_at-requires c = tt

pub returns-then-must : goal.returns-then-must
returns-then-must c = rw (c.if-must.true, ← c.lacks.ensures) c.list_at.ensures

pub dies-requires : goal.dies-requires
dies-requires c = c.requires

pub list_at-requires-2 : goal.list_at-requires-2
list_at-requires-2 c = tt

pub returns : goal.returns
returns c = rw (c.if-must.false, ← c.dies.ensures) c.list_at-2.ensures
