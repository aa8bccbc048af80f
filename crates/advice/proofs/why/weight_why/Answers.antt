-- `why::weight_why` takes the test of the definition of that name. Assumes nothing.
use borrow.Author.Tests.{eq-eqb, ne_eqb}
use Rattle.advice.proofs.why.weight_why.Goals as goal

pub returns-then-total-eq0 : goal.returns-then-total-eq0
returns-then-total-eq0 c = rw (eq-eqb c.args.total 0 c.if-total-eq0.true) c.because.ensures

pub returns : goal.returns
returns c = rw (ne_eqb c.args.total 0 c.if-total-eq0.false) c.one_why.ensures
