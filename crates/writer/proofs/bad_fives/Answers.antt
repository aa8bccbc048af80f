-- `writer::bad_fives` meets its contract: numbers left over decide, else the number of systems. Assumes nothing.
use borrow.Author.Rules.{rules}
use borrow.Author.Tests.{eq-eqb, ne_eqb}
use Rattle.writer.proofs.bad_fives.Goals as goal

pub returns-then-count-ne0 : goal.returns-then-count-ne0
returns-then-count-ne0 c = rw (ne_eqb _ _ c.if-count-ne0.true)

pub returns : goal.returns
returns c = rw (eq-eqb _ _ c.if-count-ne0.false) c.outside.ensures
