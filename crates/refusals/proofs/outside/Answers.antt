-- `refusals::outside` meets its contract: below the low end, or else whether above the high one. Assumes nothing.
use borrow.Author.Tests.{lt-leb, le-leb}
use Rattle.rules.proofs.Tests.{not-leb}
use Rattle.refusals.proofs.outside.Goals as goal

pub returns-then-x-low : goal.returns-then-x-low
returns-then-x-low c = rw (lt-leb _ _ c.if-x-low.true)

pub returns : goal.returns
returns c = rw (le-leb _ _ c.if-x-low.false) (not-leb c.args.high c.args.x)
