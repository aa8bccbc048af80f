-- `percent::percent_of` meets its contract, which is its code. Assumes nothing.
use native.Mathlib.Omega.{arith}
use Rattle.rules.specs.Figure.{rounded}
use Rattle.units.proofs.Laws.{whole-some, whole-most}
use Rattle.percent.proofs.percent_of.Goals as goal

pub overflow_sub-unit : goal.overflow_sub-unit
overflow_sub-unit c = omega (arith, c.whole-unit.ensures, whole-some c.args.decimal)

pub overflow_add-figure : goal.overflow_add-figure
overflow_add-figure c = omega (arith, c.whole-unit.ensures, whole-most c.args.decimal, c.requires)

pub over-requires : goal.over-requires
over-requires c = rw c.whole-unit.ensures (omega (arith, whole-some c.args.decimal))

pub returns-then-up : goal.returns-then-up
unfolding rounded
returns-then-up c = rw (c.if-up.true, c.over.ensures, c.whole-unit.ensures)

pub over-requires-2 : goal.over-requires-2
over-requires-2 c = rw c.whole-unit.ensures (omega (arith, whole-some c.args.decimal))

pub returns : goal.returns
unfolding rounded
returns c = rw (c.if-up.false, c.over-2.ensures, c.whole-unit.ensures)
