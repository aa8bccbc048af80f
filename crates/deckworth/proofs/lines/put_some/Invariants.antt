-- `lines::put_some` meets its contract: the buffer so far has the lines of the systems passed, and room for the rest. Assumes nothing.
use Prim.Native.Nat.{◌+◌}
use Rattle.printing.proofs.Lined.{Lined}
use Rattle.deckworth.specs.Lines.{fans_text}
use Rattle.deckworth.proofs.lines.put_some.Given as goal

abbrev pub invariant-loop-k : goal.invariant-loop-k
invariant-loop-k l = Lined l.count (λ j. fans_text l.words l.file (l.from + j)) l.initial.out 0 l.out l.end l.k
