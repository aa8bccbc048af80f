-- `worth` is the call, and its table cleared after an answer. Assumes nothing.
use borrow.Author.Rules.{rules}
use Rattle.swaps.proofs.Compared.{clear-fits, compared-cleared}
use Rattle.worth.proofs.Asking.{room}
use Rattle.worth.proofs.worth.Goals as goal

pub clear-requires : goal.clear-requires
clear-requires c =
    clear-fits c.weigh-worth.ensures.outcome c.is_ends.ensures (room _ _ _)

pub returns : goal.returns
returns c =
    record { outcome = compared-cleared c.weigh-worth.ensures.outcome c.is_ends.ensures c.clear.ensures }
