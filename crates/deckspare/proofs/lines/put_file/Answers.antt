-- `lines::put_file` meets its contract, on a refusal and on none. Assumes nothing.
use mathlib.Core.Path.{ap, ◌∙◌}
use Rattle.grammar.specs.Numbers.{parts}
use Rattle.deck.proofs.Outcome.{opened-headed}
use Rattle.printing.proofs.Printed.{refused-printed, body-printed}
use Rattle.deckspare.specs.Lines.{list_text}
use Rattle.deckspare.proofs.lines.put_file.Goals as goal

pub returns-in-Err : goal.returns-in-Err
returns-in-Err c =
    refused-printed (list_text c.args.word.now c.args.wanted) c.in-Err.ensures (rw c.number.ensures at c.put_refused_file.ensures)

pub put_systems-requires : goal.put_systems-requires
put_systems-requires c = record { headed = opened-headed c.in-Ok.ensures; room = c.requires }

pub returns-in-Ok : goal.returns-in-Ok
returns-in-Ok c =
    let version = (opened-headed c.in-Ok.ensures).says.version in
    let p = c.parts-p.ensures ∙ ap (λ v. parts v c.args.word.now) version in
    body-printed (list_text c.args.word.now c.args.wanted) c.in-Ok.ensures (rw p at c.put_systems.ensures)
