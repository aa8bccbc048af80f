-- `fan_gains::weigh_lists` meets its contract: the gain's call over a table of zeros. Assumes nothing.
use borrow.Author.Rules.{rules}
use Rattle.gain.proofs.Outcome.{answer-is}
use Rattle.fan_gains.proofs.weigh_lists.Goals as goal

pub returns : goal.returns
returns c = answer-is c.weigh.ensures
