-- `showing::put_fans` meets its contract: the buffer so far has the lines of the fans passed, and room for the rest. Assumes nothing.
use Rattle.rules.specs.File.{deck_in}
use Rattle.printing.proofs.Lined.{Lined}
use Rattle.deckshow.specs.Lines.{fan_line}
use Rattle.deckshow.proofs.showing.put_fans.Given as goal

abbrev pub invariant-loop-i : goal.invariant-loop-i
invariant-loop-i l = Lined l.head.fans (fan_line (deck_in l.file)) l.initial.out l.at l.out l.end l.i
