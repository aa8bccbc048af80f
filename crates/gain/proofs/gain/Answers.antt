-- `gain` is the call, and its table cleared after an answer. Assumes nothing.
use borrow.Author.Rules.{rules}
use Rattle.swaps.proofs.Compared.{compared-cleared}
use Rattle.gain.proofs.Outcome.{fits}
use Rattle.gain.proofs.gain.Goals as goal

pub clear-requires : goal.clear-requires
clear-requires c =
    fits c.weigh-gain.ensures c.is_ends.ensures

pub returns : goal.returns
returns c =
    record { outcome = compared-cleared c.weigh-gain.ensures.outcome c.is_ends.ensures c.clear.ensures }
