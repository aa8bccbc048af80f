-- `operand` meets its contract: one operand more, or one too many. Assumes nothing.
use mathlib.Core.Path.{refl}
use borrow.Author.Tests.{lt-ltb, le-ltb}
use Rattle.options.proofs.operand.Goals as goal

pub returns-then-asked-most : goal.returns-then-asked-most
returns-then-asked-most c = rw (lt-ltb _ _ c.if-asked-most.true, c.first_of.ensures) refl

pub returns : goal.returns
returns c = rw (le-ltb _ _ c.if-asked-most.false) c.decide.ensures
