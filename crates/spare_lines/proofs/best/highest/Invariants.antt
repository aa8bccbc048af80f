-- `best::highest` meets its contract: so far it is the highest of the places passed. Assumes nothing.
use mathlib.Core.Path.{◌≡◌}
use lib.ListN.{get_or}
use Rattle.spares.specs.Highest.{highest}
use Rattle.spare_lines.specs.Ranks.{left_in}
use Rattle.spare_lines.proofs.best.highest.Given as goal

abbrev pub invariant-loop-i : goal.invariant-loop-i
invariant-loop-i l = (l.top ≡ highest (λ j. get_or l.low j 0) (left_in l.left) l.i)
