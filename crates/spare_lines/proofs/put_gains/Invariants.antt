-- `put_gains` meets its contract: the buffer so far has the lines of the places passed, and room for the rest. Assumes nothing.
use Prim.Native.Nat.{◌+◌}
use lib.ListN.{get_or}
use Rattle.printing.proofs.Lined.{Lined}
use Rattle.spare_lines.specs.Lines.{ends_of, gain_line}
use Rattle.spare_lines.proofs.put_gains.Given as goal

abbrev pub invariant-loop-i : goal.invariant-loop-i
invariant-loop-i l =
    Lined l.size (λ j. gain_line l.s (l.a + j) (ends_of (get_or l.low j 0) (get_or l.high j 0)) l.before) l.initial.out l.at l.out l.end l.i
