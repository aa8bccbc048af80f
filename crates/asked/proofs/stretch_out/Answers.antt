-- `stretch_out` takes the tests of `badStretch` in their order. Assumes nothing.
use borrow.Author.Tests.{eq-eqb, ne_eqb, lt-ltb, le-ltb}
use Rattle.asked.proofs.stretch_out.Goals as goal

pub returns-then-a-eq0 : goal.returns-then-a-eq0
returns-then-a-eq0 c = simp (eq-eqb _ _ c.if-a-eq0.true)

pub returns-then-b-a : goal.returns-then-b-a
returns-then-b-a c = simp (ne_eqb _ _ c.if-a-eq0.false, lt-ltb _ _ c.if-b-a.true)

pub returns : goal.returns
returns c = simp (ne_eqb _ _ c.if-a-eq0.false, le-ltb _ _ c.if-b-a.false)
