-- `words::skip` meets its contract: the words from where it stands are those from where it began. Assumes nothing.
use mathlib.Core.Path.{◌≡◌}
use mathlib.Core.List.{[]}
use lib.ListN.{drop}
use Rattle.grammar.specs.Words.{words_on}
use Rattle.grammar.proofs.words.skip.Given as goal

abbrev pub invariant-loop-i : goal.invariant-loop-i
invariant-loop-i l = words_on [] (drop l.i l.line) ≡ words_on [] (drop l.at l.line)
