-- `put_cards` meets its contract: each system ends within the room, and each place is one of the file's. Assumes nothing.
use Rattle.deckpage.proofs.put_cards.Goals as goal

pub loop-s-init : goal.loop-s-init
loop-s-init c = c.requires.1

pub put_card-end-requires : goal.put_card-end-requires
put_card-end-requires c =
    record { headed = c.requires.0; place = c.loop-s-test.true }
