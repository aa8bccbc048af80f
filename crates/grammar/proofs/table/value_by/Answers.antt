-- `table::value_by` meets its contract, by its one test. Assumes nothing.
use Rattle.grammar.proofs.Ways.{value-own, value_read}
use native.Mathlib.Omega.{arith}
use Rattle.grammar.proofs.table.value_by.Goals as goal

pub overflow_mul-at : goal.overflow_mul-at
overflow_mul-at c = omega (arith, c.requires.1)

pub overflow_add-way : goal.overflow_add-way
overflow_add-way c = omega (arith, c.requires.1)

pub offset_bounds-table-at : goal.offset_bounds-table-at
offset_bounds-table-at c = omega (arith, c.requires.1)

pub bounds-table-at : goal.bounds-table-at
bounds-table-at c = omega (arith, c.requires.1)

pub overflow_add-result : goal.overflow_add-result
overflow_add-result c = omega (arith, c.requires.1)

pub offset_bounds-table-at-then-way-lt-AS_NUMBER : goal.offset_bounds-table-at-then-way-lt-AS_NUMBER
offset_bounds-table-at-then-way-lt-AS_NUMBER c = omega (arith, c.requires.1)

pub bounds-table-at-then-way-lt-AS_NUMBER : goal.bounds-table-at-then-way-lt-AS_NUMBER
bounds-table-at-then-way-lt-AS_NUMBER c = omega (arith, c.requires.1)

pub returns-then-way-lt-AS_NUMBER : goal.returns-then-way-lt-AS_NUMBER
returns-then-way-lt-AS_NUMBER c = value-own c.args.table.now c.requires.0 c.args.row c.args.version _ c.if-way-lt-AS_NUMBER.true

pub returns : goal.returns
returns c = value_read c.args.table.now c.requires.0 c.args.row c.args.version _ _ c.if-way-lt-AS_NUMBER.false c.reading.ensures
