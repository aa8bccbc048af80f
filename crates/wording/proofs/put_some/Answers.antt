-- `put_some` meets its contract: nothing, or the named number. Assumes nothing.
use native.Mathlib.Omega.{arith}
use borrow.Author.Tests.{eq-eqb, ne_eqb}
use Rattle.text.proofs.Adding.{none-added, named-added}
use Rattle.wording.proofs.put_some.Goals as goal

pub returns-then-n-eq0 : goal.returns-then-n-eq0
returns-then-n-eq0 c = rw (eq-eqb _ 0 c.if-n-eq0.true) (none-added c.args.out.now c.args.at)

pub returns : goal.returns
returns c =
    rw (ne_eqb _ 0 c.if-n-eq0.false) (named-added (omega (arith, c.requires)) c.put_named.ensures)
