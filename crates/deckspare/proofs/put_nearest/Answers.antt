-- `put_nearest` meets its contract: what was put last ends within the room. Assumes nothing.
use Rattle.shell.proofs.Counted.{counted}
use Rattle.deckspare.proofs.put_nearest.Goals as goal

pub returns : goal.returns
returns c = counted _ _ c.put.ensures.within
