-- `numbers::letters` meets its contract: a turn takes a letter more. Assumes nothing.
use mathlib.Core.Path.{◌≡◌}
use lib.ListN.{drop}
use Rattle.grammar.specs.Numbers.{letters_on, letters_of}
use Rattle.grammar.proofs.numbers.letters.Given as goal

abbrev pub invariant-loop-letter : goal.invariant-loop-letter
invariant-loop-letter l = letters_of l.word ≡ letters_on l.number (drop l.letter-index l.word)
