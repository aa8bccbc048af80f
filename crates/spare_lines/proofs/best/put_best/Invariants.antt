-- `best::put_best` meets its contract: the buffer so far has the lines of the groups passed, and room for the rest, since no more places are named than there are.
-- Assumes nothing.
use Rattle.printing.proofs.Lined.{Lined}
use Rattle.spare_lines.specs.Best.{ranked_in, round_text}
use Rattle.spare_lines.proofs.Rounds.{Standing}
use Rattle.spare_lines.proofs.best.put_best.Given as goal

abbrev pub invariant-loop-round : goal.invariant-loop-round
invariant-loop-round l =
    Lined l.shown.size (round_text l.shown l.best (ranked_in l.shown.size l.places l.before)) l.initial.out l.at l.out l.end l._round × Standing (ranked_in l.shown.size l.places l.before) l._round l.left l.gone
