-- `carry` reads a carry only under kind 2. Assumes nothing.
use borrow.Author.Tests.{eq-eqb, ne_eqb}
use Rattle.rules.specs.State.{number_of}
use Rattle.rows.specs.Kinds.{carry_of}
use Rattle.rows.proofs.kinds.carry.Goals as goal

pub returns-then-rule-eq-WEIGHT : goal.returns-then-rule-eq-WEIGHT
unfolding carry_of number_of
returns-then-rule-eq-WEIGHT c = simp (eq-eqb _ _ c.if-rule-eq-WEIGHT.true) c.from.ensures

pub returns : goal.returns
unfolding carry_of
returns c = simp (ne_eqb _ _ c.if-rule-eq-WEIGHT.false)
