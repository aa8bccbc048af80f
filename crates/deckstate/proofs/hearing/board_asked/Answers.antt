-- `hearing::board_asked` meets its contract, by its one test. Assumes nothing.
use borrow.Author.Tests.{eq-eqb, ne_eqb}
use Rattle.deckstate.proofs.hearing.board_asked.Goals as goal

pub returns-then-g-eq0 : goal.returns-then-g-eq0
returns-then-g-eq0 c = rw (eq-eqb _ 0 c.if-g-eq0.true) c.faulty.ensures

pub returns : goal.returns
returns c = rw (ne_eqb _ 0 c.if-g-eq0.false) c.sound.ensures
