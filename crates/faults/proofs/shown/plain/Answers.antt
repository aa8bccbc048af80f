-- `shown::plain` meets its contract, test by test. Assumes nothing.
use borrow.Author.Tests.{le-leb, lt-leb}
use Rattle.faults.proofs.shown.plain.Goals as goal

pub returns-then-b-lt33 : goal.returns-then-b-lt33
returns-then-b-lt33 c = simp (lt-leb _ _ c.if-b-lt33.true)

pub returns-then-b-gt126 : goal.returns-then-b-gt126
returns-then-b-gt126 c = simp (le-leb _ _ c.if-b-lt33.false, lt-leb _ _ c.if-b-gt126.true)

pub returns : goal.returns
returns c = simp (le-leb _ _ c.if-b-lt33.false, le-leb _ _ c.if-b-gt126.false)
