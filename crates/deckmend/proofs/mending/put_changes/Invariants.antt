-- `mending::put_changes` meets its contract: the buffer so far has the lines of the changes passed, and room for the rest. Assumes nothing.
use Rattle.text.specs.Added.{Added}
use Rattle.deckmend.specs.Lines.{changes_text}
use Rattle.deckmend.proofs.mending.put_changes.Given as goal

abbrev pub invariant-loop-i : goal.invariant-loop-i
invariant-loop-i l = Added (changes_text l.i l.list) l.initial.out 0 l.out l.end
