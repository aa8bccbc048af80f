-- `best::put_round` meets its contract: a group that is not named puts nothing. Assumes nothing.
use borrow.Author.Rules.{rules}
use Rattle.text.proofs.Adding.{none-added}
use Rattle.spare_lines.proofs.best.put_round.Goals as goal

pub returns-then-not-named : goal.returns-then-not-named
returns-then-not-named c = rw c.if-not-named.true (none-added _ _)

pub put_group-requires : goal.put_group-requires
put_group-requires c =
    record { few = c.requires.few; within = c.requires.within; group = c.requires.group; room = c.requires.room c.if-not-named.false }

pub returns : goal.returns
returns c =
    rw c.if-not-named.false c.put_group.ensures
