-- `answer` is the call over a table of zeros. Assumes nothing.
use borrow.Author.Rules.{rules}
use Rattle.planning.proofs.Outcome.{answer-is}
use Rattle.planning.proofs.answer.Goals as goal

pub returns : goal.returns
returns c = answer-is c.rate.ensures
