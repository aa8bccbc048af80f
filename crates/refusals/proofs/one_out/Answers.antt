-- `refusals::one_out` meets its contract: the range's two tests, one after the other. Assumes nothing.
use mathlib.Core.Path.{sym, ◌∙◌}
use borrow.Author.Tests.{not-true, not-false}
use Rattle.rules.specs.Below.{within}
use Rattle.refusals.proofs.one_out.Goals as goal

pub returns-then-outside : goal.returns-then-outside
returns-then-outside c = rw (not-true (within 1 c.args.k c.args.most) (sym c.outside.ensures ∙ c.if-outside.true))

pub returns : goal.returns
returns c = rw (not-false (within 1 c.args.k c.args.most) (sym c.outside.ensures ∙ c.if-outside.false))
