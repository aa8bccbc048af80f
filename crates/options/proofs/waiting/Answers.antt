-- `waiting` meets its contract, by the last byte of the row. Assumes nothing.
use borrow.Author.Tests.{eq-eqb, ne_eqb}
use Rattle.options.proofs.waiting.Goals as goal

pub returns-then-table-k-eq-EQUALS : goal.returns-then-table-k-eq-EQUALS
returns-then-table-k-eq-EQUALS c = simp (eq-eqb _ _ c.if-table-k-eq-EQUALS.true)

pub returns-else-table-k-eq-EQUALS : goal.returns-else-table-k-eq-EQUALS
returns-else-table-k-eq-EQUALS c = simp (ne_eqb _ _ c.if-table-k-eq-EQUALS.false)
