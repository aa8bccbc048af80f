-- `ending::missing` meets its contract, by its one test. Assumes nothing.
use Rattle.typed_lists.proofs.Telling.{told_none}
use Rattle.listing.proofs.ending.missing.Goals as goal

pub returns-then-not-lacks : goal.returns-then-not-lacks
returns-then-not-lacks c = rw c.if-not-lacks.true (told_none c.requires.0)

pub returns : goal.returns
returns c =
    rw c.if-not-lacks.false c.plus.ensures
