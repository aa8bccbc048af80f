-- `refusals::two_out` meets its contract: the range's two tests, one after the other. Assumes nothing.
use borrow.Author.Tests.{eq-eqb, ne_eqb}
use Rattle.refusals.proofs.two_out.Goals as goal

pub returns-then-first-ne-NEAR : goal.returns-then-first-ne-NEAR
returns-then-first-ne-NEAR c = rw (ne_eqb _ _ c.if-first-ne-NEAR.true)

pub returns : goal.returns
returns c = rw (eq-eqb _ _ c.if-first-ne-NEAR.false) c.outside.ensures
