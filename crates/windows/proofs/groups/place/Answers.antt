-- `place` marks what follows a pattern, and puts it into its list where it lives. Assumes nothing.
use mathlib.Core.Path.{◌∙◌}
use native.Mathlib.Omega.{arith}
use Rattle.windows.proofs.Sorting.{small, markable, placed-dead, judged-older, append-ready, placed-living}
use Rattle.windows.proofs.groups.place.Goals as goal

pub overflow_add-x : goal.overflow_add-x
overflow_add-x c = omega (arith, small c.requires)

pub bounds-table-x : goal.bounds-table-x
bounds-table-x c = omega (arith, small c.requires, c.requires.by.room)

pub mark-requires : goal.mark-requires
mark-requires c =
    markable c.requires

pub shape_of-table-then-table-x-eq0 : goal.shape_of-table-then-table-x-eq0
shape_of-table-then-table-x-eq0 c = c.mark.ensures.kept.long

pub returns-then-table-x-eq0 : goal.returns-then-table-x-eq0
returns-then-table-x-eq0 c =
    placed-dead c.requires c.if-table-x-eq0.true c.mark.ensures

pub dies-must-requires : goal.dies-must-requires
dies-must-requires c = record { windows = c.requires.by.windows; small = omega (arith, small c.requires) }

pub mark-requires-2 : goal.mark-requires-2
mark-requires-2 c =
    markable c.requires

pub older-requires : goal.older-requires
older-requires c =
    (omega (arith, small c.requires), omega (arith, c.requires.by.most))

pub list_of-requires : goal.list_of-requires
list_of-requires c =
    rw c.older.ensures (judged-older c.requires)

pub append-requires : goal.append-requires
append-requires c =
    rw (c.list_of.ensures, c.older.ensures) (append-ready c.requires c.if-table-x-eq0.false c.dies-must.ensures c.mark-2.ensures)

pub shape_of-table : goal.shape_of-table
shape_of-table c =
    c.append.ensures.kept.long ∙ c.mark-2.ensures.kept.long

pub returns : goal.returns
returns c =
    placed-living c.requires c.if-table-x-eq0.false c.dies-must.ensures c.mark-2.ensures (rw (c.list_of.ensures, c.older.ensures) at c.append.ensures)
