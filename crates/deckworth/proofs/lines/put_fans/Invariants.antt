-- `lines::put_fans` meets its contract: the buffer so far has the lines of the fans passed, and room for the rest. Assumes nothing.
use Rattle.printing.proofs.Lined.{Lined}
use Rattle.deckworth.specs.Lines.{fan_line}
use Rattle.deckworth.proofs.lines.put_fans.Given as goal

abbrev pub invariant-loop-i : goal.invariant-loop-i
invariant-loop-i l = Lined l.head.fans (fan_line l.words l.file l.s) l.initial.out l.at l.out l.end l.i
