-- `changes::change` meets its contract, by the test. Assumes nothing.
use borrow.Author.Tests.{eq-eqb, ne_eqb}
use Rattle.mend.proofs.changes.change.Goals as goal

pub returns-then-old-new : goal.returns-then-old-new
returns-then-old-new c = rw (ne_eqb _ _ c.if-old-new.true)

pub returns : goal.returns
returns c = rw (eq-eqb _ _ c.if-old-new.false)
