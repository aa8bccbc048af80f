-- `hearing::end_words` meets its contract, by its one test. Assumes nothing.
use Rattle.deckstate.proofs.hearing.end_words.Goals as goal

pub returns-then-said : goal.returns-then-said
returns-then-said c = rw c.if-said.true c.faulty.ensures

pub returns : goal.returns
returns c = rw c.if-said.false
