-- `past` takes apart a debt that is cut short and one that is paid. Assumes nothing.
use Rattle.gaps.proofs.Reaching.{past_is}
use Rattle.gaps.proofs.owed.past.Goals as goal

pub returns-then-i-m : goal.returns-then-i-m
returns-then-i-m c =
    past_is c.requires c.if-i-m.true c.cut_short.ensures
