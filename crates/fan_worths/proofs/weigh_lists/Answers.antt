-- `fan_worths::weigh_lists` meets its contract: the worth's call over a table of zeros. Assumes nothing.
use borrow.Author.Rules.{rules}
use Rattle.worth.proofs.Outcome.{answer-is}
use Rattle.fan_worths.proofs.weigh_lists.Goals as goal

pub returns : goal.returns
returns c = answer-is c.weigh.ensures
