-- `telling::state_front` meets its contract: what is printed for the front is printed for the input. Assumes nothing.
use Rattle.printing.proofs.Printed.{whole-printed}
use Rattle.deckstate.specs.Lines.{states_text}
use Rattle.deckstate.proofs.telling.state_front.Goals as goal

pub put_file-requires : goal.put_file-requires
put_file-requires c =
    record { opens = rw c.front_of.ensures.is c.requires.opens; room = c.requires.room }

pub returns : goal.returns
returns c =
    whole-printed (states_text c.args.state) c.front_of.ensures c.put_file.ensures
