-- `lines::put_file` meets its contract, on a refusal and on none. Assumes nothing.
use Rattle.deck.proofs.Outcome.{opened-headed}
use Rattle.printing.proofs.Printed.{refused-worded, print-worded}
use Rattle.deckworth.specs.Lines.{list_text}
use Rattle.deckworth.proofs.Halves.{in-first, two-same}
use Rattle.deckworth.proofs.lines.put_file.Goals as goal

pub returns-in-Err : goal.returns-in-Err
returns-in-Err c =
    in-first c.args.more.now (refused-worded c.args.words (list_text c.args.words) c.in-Err.ensures (rw c.number.ensures at c.put_worded_file-first.ensures))

pub put_systems-requires : goal.put_systems-requires
put_systems-requires c = record { headed = opened-headed c.in-Ok.ensures; room = c.requires }

pub returns-in-Ok : goal.returns-in-Ok
returns-in-Ok c =
    two-same (print-worded c.args.words (list_text c.args.words) c.in-Ok.ensures) c.put_systems.ensures
