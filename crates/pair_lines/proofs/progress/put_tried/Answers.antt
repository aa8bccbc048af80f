-- `progress::put_tried` meets its contract: what was put last ends within the room. Assumes nothing.
use borrow.Author.Rules.{rules}
use Rattle.shell.proofs.Counted.{counted}
use Rattle.pair_lines.proofs.progress.put_tried.Goals as goal

pub returns : goal.returns
returns c = counted _ _ c.put_named.ensures.number_put.within
