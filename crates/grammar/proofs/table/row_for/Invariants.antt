-- `table::row_for` meets its contract: no row that was passed takes the word. Assumes nothing.
use mathlib.Core.Path.{◌≡◌}
use mathlib.Core.Bool.{false}
use Rattle.rules.specs.Below.{some}
use Rattle.grammar.specs.Line.{takes}
use Rattle.grammar.proofs.table.row_for.Given as goal

abbrev pub invariant-loop-i : goal.invariant-loop-i
invariant-loop-i l = some (takes l.version l.place l.word) l.i ≡ false
