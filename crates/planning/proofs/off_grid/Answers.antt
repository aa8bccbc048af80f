-- `off_grid` asks of kind 3 alone. Assumes nothing.
use borrow.Author.Rules.{rules}
use borrow.Author.Tests.{eq-eqb, ne_eqb}
use Rattle.planning.proofs.off_grid.Goals as goal

pub returns-then-rule-ne-BETWEEN : goal.returns-then-rule-ne-BETWEEN
returns-then-rule-ne-BETWEEN c = simp (ne_eqb _ _ c.if-rule-ne-BETWEEN.true)

pub returns : goal.returns
returns c = rw (eq-eqb _ _ c.if-rule-ne-BETWEEN.false) c.some_off.ensures
