-- `fails_at` takes the tests of its definition in their order. Assumes nothing.
use borrow.Author.Tests.{eq-eqb, ne_eqb, le-leb, lt-leb}
use Rattle.counts.specs.Ways.{fails_at}
use Rattle.counts.proofs.ways.fails_at.Goals as goal

pub returns-then-rule-eq-NUMBER : goal.returns-then-rule-eq-NUMBER
unfolding fails_at
returns-then-rule-eq-NUMBER c = simp (eq-eqb _ _ c.if-rule-eq-NUMBER.true)

pub returns-then-rule-j : goal.returns-then-rule-j
unfolding fails_at
returns-then-rule-j c = rw (ne_eqb _ _ c.if-rule-eq-NUMBER.false, le-leb _ _ c.if-rule-j.true)

pub returns-else-rule-j : goal.returns-else-rule-j
unfolding fails_at
returns-else-rule-j c = simp (ne_eqb _ _ c.if-rule-eq-NUMBER.false, lt-leb _ _ c.if-rule-j.false)
