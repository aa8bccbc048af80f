-- `width_in` meets its contract, on either side of its test. Assumes nothing.
use native.Mathlib.Omega.{arith}
use borrow.Author.Tests.{eq-eqb, ne_eqb}
use Rattle.totals.proofs.tally.width_in.Goals as goal

pub returns-then-unit-meant : goal.returns-then-unit-meant
returns-then-unit-meant c = (simp (eq-eqb _ _ c.if-unit-meant.true), omega arith)

pub returns-else-unit-meant : goal.returns-else-unit-meant
returns-else-unit-meant c = (simp (ne_eqb _ _ c.if-unit-meant.false), omega arith)
