-- `planned` is the call, and its table cleared after an answer. Assumes nothing.
use borrow.Author.Rules.{rules}
use Rattle.planning.proofs.Outcome.{clear-fits, answered-cleared}
use Rattle.planning.proofs.planned.Goals as goal

pub clear-requires : goal.clear-requires
clear-requires c =
    clear-fits c.rate-rating.ensures c.is_range.ensures

pub returns : goal.returns
returns c =
    answered-cleared c.rate-rating.ensures c.is_range.ensures c.clear.ensures
