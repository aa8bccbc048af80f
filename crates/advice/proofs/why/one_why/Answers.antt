-- `why::one_why` takes the test of the definition of that name. Assumes nothing.
use borrow.Author.Tests.{eq-eqb, ne_eqb}
use Rattle.advice.proofs.why.one_why.Goals as goal

pub returns-then-second-eq0 : goal.returns-then-second-eq0
returns-then-second-eq0 c = rw (eq-eqb c.args.second 0 c.if-second-eq0.true) c.because.ensures

pub returns : goal.returns
returns c = rw (ne_eqb c.args.second 0 c.if-second-eq0.false) c.because-2.ensures
