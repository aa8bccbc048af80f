-- `with_pair` meets its contract, where the best pair stays and where it does not. Assumes nothing.
use borrow.Author.Rules.{rules}
use mathlib.Core.Path.{sym, ◌∙◌}
use native.Mathlib.Omega.{arith}
use Rattle.pairs.proofs.with_pair.Goals as goal

pub overflow_add-rated : goal.overflow_add-rated
overflow_add-rated c = omega (arith, c.requires)

pub returns-then-stays : goal.returns-then-stays
returns-then-stays c = rw (sym c.stays.ensures ∙ c.if-stays.true)

pub returns : goal.returns
returns c = rw (sym c.stays.ensures ∙ c.if-stays.false)
