-- `works` asks the end that its definition asks. Assumes nothing.
use borrow.Author.Tests.{eq-eqb, ne_eqb}
use Rattle.rows.specs.Kinds.{end_of}
use Rattle.rows.proofs.kinds.works.Goals as goal

pub returns-then-rule-eq-BETWEEN : goal.returns-then-rule-eq-BETWEEN
unfolding end_of
returns-then-rule-eq-BETWEEN c = simp (eq-eqb _ _ c.if-rule-eq-BETWEEN.true) c.outside.ensures

pub returns : goal.returns
unfolding end_of
returns c = let other = ne_eqb _ 3 c.if-rule-eq-BETWEEN.false in simp other (rw (c.requires, other) at c.below.ensures)
