-- `hearing::hear_all` meets what it calls: nothing of a refused file, else all words. Assumes nothing.
use Rattle.deck.proofs.Outcome.{opened-accepted, opened-headed}
use Rattle.deck.proofs.Kept.{few-fans}
use Rattle.deckstate.proofs.Words.{boards-few}
use Rattle.deckstate.proofs.hearing.hear_all.Goals as goal

pub boards_in-boards-requires : goal.boards_in-boards-requires
boards_in-boards-requires c = opened-headed (rw c.in-Ok.is at c.requires)

pub hear_words-requires : goal.hear_words-requires
hear_words-requires c = (
  few-fans (opened-headed (rw c.in-Ok.is at c.requires)),
  rw c.boards_in-boards.ensures (boards-few _ (opened-accepted (rw c.in-Ok.is at c.requires))),
)
