-- `line::read_line` meets its contract: the words from where it stands, read from its place, make the line. The measure is what is left. Assumes nothing.
use mathlib.Core.Path.{◌≡◌}
use mathlib.Core.List.{[]}
use Prim.Native.Nat.{◌-◌, ◌≤◌}
use lib.ListN.{length, drop}
use Rattle.grammar.specs.Words.{words_on}
use Rattle.grammar.specs.Line.{read_line, walk}
use Rattle.grammar.proofs.line.read_line.Given as goal

abbrev pub invariant-loop-after : goal.invariant-loop-after
invariant-loop-after l = (l.at ≤ length l.line) × (l.place ≤ 63) × (read_line l.version l.begun l.line ≡ walk l.version l.place l.set (words_on [] (drop l.at l.line)))

abbrev pub decreases-loop-after : goal.decreases-loop-after
decreases-loop-after l = length l.line - l.at
