-- `table::row_for` meets its contract: no row that was passed takes the word. Assumes nothing.
use mathlib.Core.Path.{◌≡◌, sym, ◌∙◌}
use Rattle.rules.proofs.Lowest.{nowhere-yet, passed, found, nowhere}
use Rattle.grammar.specs.Grammar.{rows}
use Rattle.grammar.specs.Line.{row_for}
use native.Mathlib.Omega.{arith}
use Rattle.grammar.proofs.table.row_for.Goals as goal

pub loop-i-init : goal.loop-i-init
loop-i-init c = nowhere-yet _

pub returns-then-row_takes : goal.returns-then-row_takes
unfolding row_for
returns-then-row_takes c = (sym (found _ _ _ c.loop-i-test.true c.loop-i.invariant (sym c.row_takes.ensures ∙ c.if-row_takes.true)), omega arith)

pub loop-i-preserved : goal.loop-i-preserved
loop-i-preserved c = passed _ _ c.loop-i.invariant (sym c.row_takes.ensures ∙ c.if-row_takes.false)

pub returns : goal.returns
unfolding row_for
returns c = let e : c.loop-i.i ≡ rows = omega (arith, c.loop-i-test.false) in (sym (nowhere _ rows (rw e at c.loop-i.invariant)), omega arith)
