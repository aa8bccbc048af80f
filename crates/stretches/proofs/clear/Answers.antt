-- `clear` sets the cells to 0 after an answer, and leaves them after a refusal. Assumes nothing.
use borrow.Author.Rules.{rules}
use Rattle.stretches.proofs.clear.Goals as goal

pub zero-requires : goal.zero-requires
zero-requires c = c.requires c.if-answered.true

pub returns-then-answered : goal.returns-then-answered
returns-then-answered c =
    rw c.if-answered.true c.zero.ensures

pub returns-else-answered : goal.returns-else-answered
returns-else-answered c = rw c.if-answered.false
