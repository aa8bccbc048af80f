-- `tables::rubbish` meets its contract: the table so far has the numbers after the seed in its first k cells. Assumes nothing.
use Rattle.std.proofs.Common.{◌≡◌}
use Rattle.casefile.specs.Tables.{rubbish_at, rubbish_in}
use Rattle.casefile.specs.Begins.{Begins}
use Rattle.casefile.proofs.tables.rubbish.Given as goal

abbrev pub invariant-loop-cell : goal.invariant-loop-cell
invariant-loop-cell l =
    (l.x ≡ rubbish_at l.seed l.cell-index) × Begins (rubbish_in l.seed) l.initial.cells l.cells l.cell-index
