-- `line::goes_on` meets its contract, test by test. Assumes nothing.
use borrow.Author.Tests.{le-leb, lt-leb}
use Rattle.grammar.proofs.line.goes_on.Goals as goal

pub returns-then-place-lt1 : goal.returns-then-place-lt1
returns-then-place-lt1 c = simp (lt-leb _ _ c.if-place-lt1.true)

pub returns : goal.returns
returns c = simp (le-leb _ _ c.if-place-lt1.false)
