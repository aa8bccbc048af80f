-- `making::put_warnings` meets its contract: the buffer so far has the warnings of the systems passed, and room for the rest. Assumes nothing.
use Rattle.text.specs.Added.{Added}
use Rattle.making.specs.Lines.{warnings_text}
use Rattle.making.proofs.put_warnings.Given as goal

abbrev pub invariant-loop-s : goal.invariant-loop-s
invariant-loop-s l = Added (warnings_text l.file l.s) l.initial.out 0 l.out l.end
