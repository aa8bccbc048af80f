-- `lines::put_file` meets its contract, on a refusal and on none: all lines fit. Assumes nothing.
use native.Mathlib.Omega.{arith}
use Rattle.text.proofs.Adding.{added_more}
use Rattle.deck.proofs.Outcome.{opened-headed}
use Rattle.printing.proofs.Printed.{refused-worded, body-worded}
use Rattle.decklist.specs.Lines.{list_text}
use Rattle.decklist.proofs.Lengths.{head-short}
use Rattle.decklist.proofs.lines.put_file.Goals as goal

pub returns-in-Err : goal.returns-in-Err
returns-in-Err c =
    refused-worded c.args.words (list_text c.args.percent c.args.words) c.in-Err.ensures (rw c.number.ensures at c.put_worded_file.ensures)

pub put_systems-requires : goal.put_systems-requires
put_systems-requires c =
    let head = c.in-Ok.head in record { headed = opened-headed c.in-Ok.ensures; room = omega (arith, c.requires, c.put_head-end.auto, c.put_head-end.ensures.ends, head-short head.fans head.systems) }

pub returns-in-Ok : goal.returns-in-Ok
returns-in-Ok c =
    let says = (opened-headed c.in-Ok.ensures).says in
    body-worded c.args.words (list_text c.args.percent c.args.words) c.in-Ok.ensures
    (added_more (rw (says.fans, says.systems) at c.put_head-end.ensures) c.put_systems.ensures)
