-- `showing::put_systems` meets its contract: the buffer so far has the lines of the systems passed, and room for the rest. Assumes nothing.
use Rattle.rules.specs.File.{deck_in}
use Rattle.printing.proofs.Lined.{Lined}
use Rattle.deckshow.specs.Lines.{system_line}
use Rattle.deckshow.proofs.showing.put_systems.Given as goal

abbrev pub invariant-loop-s : goal.invariant-loop-s
invariant-loop-s l = Lined l.head.systems (system_line (deck_in l.file)) l.initial.out l.at l.out l.end l.s
