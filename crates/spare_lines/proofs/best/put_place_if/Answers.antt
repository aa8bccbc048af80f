-- `best::put_place_if` meets its contract: a place that is not named puts nothing. Assumes nothing.
use borrow.Author.Rules.{rules}
use Rattle.text.proofs.Adding.{none-added}
use Rattle.spare_lines.proofs.best.put_place_if.Goals as goal

pub returns-then-not-named : goal.returns-then-not-named
returns-then-not-named c = rw c.if-not-named.true (none-added _ _)

pub put_place-requires : goal.put_place-requires
put_place-requires c =
    record { within = c.requires.within; room = c.requires.room c.if-not-named.false }

pub returns : goal.returns
returns c =
    rw c.if-not-named.false c.put_place.ensures
