-- `line::step` meets its contract: the row that takes the word, or the fault where none does. Assumes nothing.
use mathlib.Core.Path.{sym, ap₂, ◌∙◌}
use Prim.Native.Nat.{◌<◌}
use lib.ListN.{set}
use Rattle.grammar.specs.Grammar.{rows}
use Rattle.grammar.proofs.Rows.{set-few}
use Rattle.grammar.proofs.Ways.{cell_at, place_none, set-none, place-some, set-some}
use native.Mathlib.Omega.{arith}
use Rattle.grammar.proofs.line.step.Goals as goal

pub row_for-row-requires : goal.row_for-row-requires
row_for-row-requires c = c.requires.0

pub overflow_add-result : goal.overflow_add-result
overflow_add-result c = omega (arith, c.requires.1)

pub returns-then-row-eq-ROWS : goal.returns-then-row-eq-ROWS
returns-then-row-eq-ROWS c =
    let is = c.row_for-row.ensures.0 in (sym (place_none c.args.version c.args.place c.args.word.now c.args.before _ is c.if-row-eq-ROWS.true), sym (set-none c.args.version c.args.place c.args.word.now c.args.before _ is c.if-row-eq-ROWS.true))

pub overflow_mul-at : goal.overflow_mul-at
overflow_mul-at c = omega (arith, c.row_for-row.ensures.1)

pub value_by-value-requires : goal.value_by-value-requires
value_by-value-requires c = (c.requires.0, (omega (arith, c.row_for-row.ensures.1, c.if-row-eq-ROWS.false)))

pub overflow_add-at : goal.overflow_add-at
overflow_add-at c = omega (arith, c.row_for-row.ensures.1)

pub offset_bounds-table-at : goal.offset_bounds-table-at
offset_bounds-table-at c = omega (arith, c.row_for-row.ensures.1, c.if-row-eq-ROWS.false)

pub bounds-table-at : goal.bounds-table-at
bounds-table-at c = omega (arith, c.row_for-row.ensures.1, c.if-row-eq-ROWS.false)

pub with-after-requires : goal.with-after-requires
with-after-requires c =
    let row = c.row_for-row.result in omega (arith, cell_at c.args.table.now c.requires.0 row 4, set-few row (omega (arith, c.row_for-row.ensures.1, c.if-row-eq-ROWS.false)))

pub overflow_add-result-2 : goal.overflow_add-result-2
overflow_add-result-2 c = omega (arith, c.row_for-row.ensures.1)

pub offset_bounds-table-at-2 : goal.offset_bounds-table-at-2
offset_bounds-table-at-2 c = omega (arith, c.row_for-row.ensures.1, c.if-row-eq-ROWS.false)

pub bounds-table-at-2 : goal.bounds-table-at-2
bounds-table-at-2 c = omega (arith, c.row_for-row.ensures.1, c.if-row-eq-ROWS.false)

pub returns : goal.returns
returns c =
    let is = c.row_for-row.ensures.0 in let row = c.row_for-row.result in let table = cell_at c.args.table.now c.requires.0 row in let l : row < rows = (omega (arith, c.row_for-row.ensures.1, c.if-row-eq-ROWS.false)) in (table 6 ∙ sym (place-some c.args.version c.args.place c.args.word.now c.args.before row is l), c.with-after.ensures ∙ ap₂ (λ k v. set c.args.before k v) (table 4) c.value_by-value.ensures ∙ sym (set-some c.args.version c.args.place c.args.word.now c.args.before row is l))
