-- `telling::put_systems` meets its contract: the buffer so far has the lines of the systems passed, and room for the rest. Assumes nothing.
use Rattle.printing.proofs.Lined.{Lined}
use Rattle.deckstate.specs.Lines.{system_line}
use Rattle.deckstate.proofs.telling.put_systems.Given as goal

abbrev pub invariant-loop-s : goal.invariant-loop-s
invariant-loop-s l = Lined l.head.systems (system_line l.state l.file) l.initial.out 0 l.out l.end l.s
