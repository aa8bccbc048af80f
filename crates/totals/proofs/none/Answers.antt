-- `none` meets its contract: the totals of no file are zeros. Assumes nothing.
use borrow.Author.Rules.{rules}
use Rattle.rules.specs.Below.{list_below, total}
use Rattle.totals.specs.Season.{chosen, some_of, singles_from, totals_of}
use Rattle.totals.proofs.none.Goals as goal

pub returns : goal.returns
unfolding totals_of singles_from chosen some_of total list_below
returns c = rw c.none-tally.ensures
