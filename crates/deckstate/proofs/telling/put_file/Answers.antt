-- `telling::put_file` meets its contract, on a refusal and on none: all lines fit. Assumes nothing.
use native.Mathlib.Omega.{arith}
use Rattle.deck.proofs.Outcome.{opened-headed}
use Rattle.printing.proofs.Printed.{refused-printed, body-printed}
use Rattle.deckstate.specs.Lines.{states_text}
use Rattle.deckstate.proofs.telling.put_file.Goals as goal

pub returns-in-Err : goal.returns-in-Err
returns-in-Err c =
    refused-printed (states_text c.args.state) (rw c.in-Err.is at c.requires.opens) (rw c.number.ensures at c.put_refused_file.ensures)

pub put_systems-requires : goal.put_systems-requires
put_systems-requires c =
    record { headed = opened-headed (rw c.in-Ok.is at c.requires.opens); room = omega (arith, c.requires.room) }

pub returns-in-Ok : goal.returns-in-Ok
returns-in-Ok c =
    body-printed (states_text c.args.state) (rw c.in-Ok.is at c.requires.opens) c.put_systems.ensures
