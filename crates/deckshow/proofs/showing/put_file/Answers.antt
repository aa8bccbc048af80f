-- `showing::put_file` meets its contract, on a refusal and on none. Assumes nothing.
use Rattle.deck.proofs.Outcome.{opened-headed}
use Rattle.printing.proofs.Printed.{refused-printed, body-printed}
use Rattle.deckshow.specs.Lines.{show_text}
use Rattle.deckshow.proofs.showing.put_file.Goals as goal

pub returns-in-Err : goal.returns-in-Err
returns-in-Err c = refused-printed show_text c.in-Err.ensures (rw c.number.ensures at c.put_refused_file.ensures)

pub put_deck-requires : goal.put_deck-requires
put_deck-requires c = record { headed = opened-headed c.in-Ok.ensures; room = c.requires }

pub returns-in-Ok : goal.returns-in-Ok
returns-in-Ok c = body-printed show_text c.in-Ok.ensures c.put_deck.ensures
