-- `put_stretch` meets its contract: nothing for the whole deck, else the two ends. Assumes nothing.
use mathlib.Core.Logic.{inl, inr}
use borrow.Author.Tests.{eq-eqb}
use Rattle.text.proofs.Adding.{none-added}
use Rattle.wording.proofs.Rows.{not-whole}
use Rattle.wording.proofs.put_stretch.Goals as goal
use Rattle.wording.proofs.put_stretch.Goals.{then-a-eq1+else-b-n, else-a-eq1}

pub returns-then-b-n : goal.returns-then-b-n
returns-then-b-n c =
    rw (eq-eqb _ 1 c.if-a-eq1.true, eq-eqb _ _ c.if-b-n.true) (none-added c.args.out.now c.args.at)

pub returns : goal.returns
returns c =
    rw (not-whole c.args.n c.args.a c.args.b (elim c.if-a-eq1.branch [ then-a-eq1+else-b-n w ↦ inr w.if-b-n.false | else-a-eq1 w ↦ inl w.if-a-eq1.false ]))
    c.put_pair.ensures
