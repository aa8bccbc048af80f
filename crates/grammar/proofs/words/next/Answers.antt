-- `words::next` meets its contract: blanks skipped, and then a word passed. Assumes nothing.
use Rattle.grammar.proofs.Walking.{spanned}
use Rattle.grammar.proofs.words.next.Goals as goal

pub pass-upto-requires : goal.pass-upto-requires
pass-upto-requires c = c.skip-from.ensures.high

pub returns : goal.returns
returns c = spanned _ _ _ _ c.skip-from.ensures c.pass-upto.ensures
