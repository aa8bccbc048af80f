-- `Lowest::plus` meets its contract: the products fit, and its tests are the definition's. Assumes nothing.
use borrow.Author.Tests.{eq-eqb, ne_eqb, lt-ltb, le-ltb}
use Rattle.totals.proofs.Spare.{product-fits}
use Rattle.totals.proofs.tally.Lowest.plus.Goals as goal

pub returns-then-self-eq0 : goal.returns-then-self-eq0
returns-then-self-eq0 c = simp (eq-eqb _ _ c.if-self-eq0.true)

pub overflow_mul-next : goal.overflow_mul-next
overflow_mul-next c = record { fits = product-fits _ _ c.requires.more.low c.requires.held.unit }

pub overflow_mul-self : goal.overflow_mul-self
overflow_mul-self c =
    record { fits = product-fits _ _ c.requires.held.low c.requires.more.unit }

pub returns-then-next-self : goal.returns-then-next-self
returns-then-next-self c =
    simp (ne_eqb _ _ c.if-self-eq0.false, lt-ltb _ _ c.if-next-self.true)

pub returns : goal.returns
returns c =
    simp (ne_eqb _ _ c.if-self-eq0.false, le-ltb _ _ c.if-next-self.false)
