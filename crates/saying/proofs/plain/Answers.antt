-- `plain` meets its contract, test by test. Assumes nothing.
use borrow.Author.Tests.{le-leb, lt-leb}
use Rattle.saying.proofs.plain.Goals as goal

pub returns-then-byte-lt32 : goal.returns-then-byte-lt32
returns-then-byte-lt32 c = simp (lt-leb _ _ c.if-byte-lt32.true)

pub returns-then-beyond : goal.returns-then-beyond
returns-then-beyond c = simp (le-leb _ _ c.if-byte-lt32.false, lt-leb _ _ c.if-beyond.true)

pub returns : goal.returns
returns c = simp (le-leb _ _ c.if-byte-lt32.false, le-leb _ _ c.if-beyond.false)
