-- `systems::rate_lists` meets its contract: the rating call over a table of zeros. Assumes nothing.
use borrow.Author.Rules.{rules}
use Rattle.figures.proofs.Outcome.{answer-is}
use Rattle.systems.proofs.rate_lists.Goals as goal

pub returns : goal.returns
returns c = answer-is c.rate.ensures
