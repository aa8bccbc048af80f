-- `table::table` meets its contract: the rows are the grammar's, with each word as its number. Assumes nothing.
use mathlib.Core.Path.{refl}
use Rattle.grammar.specs.Numbers.{letters_on}
use Rattle.grammar.specs.Grammar.{grammar}
use Rattle.grammar.proofs.table.table.Goals as goal

pub returns : goal.returns
unfolding letters_on grammar
returns c = refl
