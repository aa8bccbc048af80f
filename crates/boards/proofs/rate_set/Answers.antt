-- `rate_set` meets its contract: the engine on a copy of the list. Assumes nothing.
use Rattle.boards.proofs.Working.{behind-ratable}
use Rattle.boards.proofs.rate_set.Goals as goal

pub rate-requires : goal.rate-requires
rate-requires c =
    rw c.behind-numbers.ensures.front (behind-ratable c.args.boards.now c.args.out c.requires.able)

pub returns : goal.returns
returns c =
    record { figure = rw c.behind-numbers.ensures.front at c.rate.ensures.figure; kept = c.rate.ensures.kept }
