-- `why::ring_why` takes the test of the definition of that name. Assumes nothing.
use borrow.Author.Tests.{le-leb, lt-leb}
use Rattle.advice.proofs.why.ring_why.Goals as goal

pub returns-then-n-le1 : goal.returns-then-n-le1
returns-then-n-le1 c = rw (le-leb c.args.n 1 c.if-n-le1.true) c.because.ensures

pub returns : goal.returns
returns c = rw (lt-leb c.args.n 1 c.if-n-le1.false) c.because-2.ensures
