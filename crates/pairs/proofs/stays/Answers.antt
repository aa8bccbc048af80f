-- `stays` meets its contract, before any pair and after. Assumes nothing.
use borrow.Author.Tests.{eq-eqb, ne_eqb}
use Rattle.pairs.proofs.stays.Goals as goal

pub returns-then-best-eq0 : goal.returns-then-best-eq0
returns-then-best-eq0 c = rw (eq-eqb c.args.best.rated 0 c.if-best-eq0.true)

pub returns-else-best-eq0 : goal.returns-else-best-eq0
returns-else-best-eq0 c = rw (ne_eqb c.args.best.rated 0 c.if-best-eq0.false)
