-- `table::row_takes` meets its contract, test by test. Assumes nothing.
use mathlib.Core.Path.{sym}
use Rattle.grammar.proofs.Ways.{other_place, below-least, up-to-most}
use native.Mathlib.Omega.{arith}
use Rattle.grammar.proofs.table.row_takes.Goals as goal

pub overflow_mul-at : goal.overflow_mul-at
overflow_mul-at c = omega (arith, c.requires.1)

pub offset_bounds-table-at : goal.offset_bounds-table-at
offset_bounds-table-at c = omega (arith, c.requires.1)

pub bounds-table-at : goal.bounds-table-at
bounds-table-at c = omega (arith, c.requires.1)

pub returns-then-table-at : goal.returns-then-table-at
returns-then-table-at c =
    sym (other_place c.args.table.now c.requires.0 c.args.i _ _ _ c.if-table-at.true)

pub overflow_add-at : goal.overflow_add-at
overflow_add-at c = omega (arith, c.requires.1)

pub offset_bounds-table-at-2 : goal.offset_bounds-table-at-2
offset_bounds-table-at-2 c = omega (arith, c.requires.1)

pub bounds-table-at-2 : goal.bounds-table-at-2
bounds-table-at-2 c = omega (arith, c.requires.1)

pub overflow_add-at-2 : goal.overflow_add-at-2
overflow_add-at-2 c =
    omega (arith, c.requires.1)

pub offset_bounds-table-at-3 : goal.offset_bounds-table-at-3
offset_bounds-table-at-3 c =
    omega (arith, c.requires.1)

pub bounds-table-at-3 : goal.bounds-table-at-3
bounds-table-at-3 c =
    omega (arith, c.requires.1)

pub returns-then-number-table : goal.returns-then-number-table
returns-then-number-table c =
    sym (below-least c.args.table.now c.requires.0 c.args.i _ _ _ c.if-table-at.false _ c.reading-number.ensures c.if-number-table.true)

pub overflow_add-result : goal.overflow_add-result
overflow_add-result c =
    omega (arith, c.requires.1)

pub offset_bounds-table-at-4 : goal.offset_bounds-table-at-4
offset_bounds-table-at-4 c =
    omega (arith, c.requires.1)

pub bounds-table-at-4 : goal.bounds-table-at-4
bounds-table-at-4 c =
    omega (arith, c.requires.1)

pub returns : goal.returns
returns c =
    up-to-most c.args.table.now c.requires.0 c.args.i _ _ _ c.if-table-at.false _ c.reading-number.ensures c.if-number-table.false
