-- `lines::put_systems` meets its contract: the buffer so far has the lines of the systems passed, and room for the rest. Assumes nothing.
-- left. Assumes nothing.
use Rattle.printing.proofs.Lined.{Lined}
use Rattle.deckspare.specs.Lines.{job_of, system_lines}
use Rattle.deckspare.proofs.lines.put_systems.Given as goal

abbrev pub invariant-loop-s : goal.invariant-loop-s
invariant-loop-s l = Lined l.head.systems (λ i. system_lines l.file (job_of l.p l.wanted i)) l.initial.out 0 l.out l.end l.s
