-- `report::put_kinds` meets its contract: the buffer so far has the lines of the kinds passed, and room for the rest. Assumes nothing.
use mathlib.Core.Path.{◌≡◌}
use lib.ListN.{length}
use Rattle.text.specs.Added.{Added}
use Rattle.season_report.specs.Lines.{kinds_text}
use Rattle.season_report.proofs.put_kinds.Given as goal

abbrev pub invariant-loop-k : goal.invariant-loop-k
invariant-loop-k l = (length l.out ≡ length l.initial.out) × Added (kinds_text l.k l.fn.kinds) l.initial.out l.at l.out l.end
