-- `first_of` meets its contract, test by test. Assumes nothing.
use borrow.Author.Tests.{eq-eqb, ne_eqb}
use Rattle.options.proofs.first_of.Goals as goal

pub returns-then-asked-eq0 : goal.returns-then-asked-eq0
returns-then-asked-eq0 c = rw (eq-eqb _ _ c.if-asked-eq0.true)

pub returns-else-asked-eq0 : goal.returns-else-asked-eq0
returns-else-asked-eq0 c = rw (ne_eqb _ _ c.if-asked-eq0.false)
