-- `full` is what a row lets go. Assumes nothing.
use borrow.Author.Tests.{lt-ltb, le-ltb}
use Rattle.bins.specs.Bins.{gone_at}
use Rattle.bins.proofs.full.Goals as goal

pub returns-then-j-k : goal.returns-then-j-k
unfolding gone_at
returns-then-j-k c = rw (lt-ltb _ _ c.if-j-k.true)

pub returns : goal.returns
unfolding gone_at
returns c = rw (le-ltb _ _ c.if-j-k.false)
