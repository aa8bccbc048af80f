-- `words::pass` meets its contract: what is passed is the word so far. Assumes nothing.
use mathlib.Core.Path.{◌≡◌}
use mathlib.Core.List.{[]}
use lib.ListN.{drop}
use Rattle.grammar.specs.Words.{words_on}
use Rattle.grammar.specs.Stands.{part}
use Rattle.grammar.proofs.words.pass.Given as goal

abbrev pub invariant-loop-i : goal.invariant-loop-i
invariant-loop-i l = words_on [] (drop l.at l.line) ≡ words_on (part l.line l.at l.i) (drop l.i l.line)
