-- `best::put_group` meets its contract: the buffer so far has the lines of the group's places passed, and room for the rest.
-- Assumes nothing.
use mathlib.Core.Bool.{false}
use Prim.Native.Nat.{◌+◌}
use lib.ListN.{get_or}
use Rattle.printing.proofs.Lined.{Lined}
use Rattle.spare_lines.specs.Lines.{ends_of}
use Rattle.spare_lines.specs.Best.{place_if}
use Rattle.spare_lines.proofs.best.put_group.Given as goal

abbrev pub invariant-loop-i : goal.invariant-loop-i
invariant-loop-i l =
    Lined l.shown.size (λ j. place_if (get_or l.alike j false) l.shown l.rank l.group.count (l.shown.a + j) (ends_of (get_or l.low j 0) (get_or l.high j 0))) l.initial.out l.at l.out l.end l.i
