-- `hearing::settled` meets its contract: nothing of a refused file, else what the words say. Assumes nothing.
use mathlib.Core.Path.{ap, ◌∙◌}
use Rattle.deck.proofs.Outcome.{opened-headed, opened-refused}
use Rattle.deckstate.specs.Words.{ended}
use Rattle.deckstate.proofs.Words.{said-heard, said-refused}
use Rattle.deckstate.proofs.hearing.settled.Goals as goal

pub returns-in-Ok : goal.returns-in-Ok
returns-in-Ok c =
    let headed = opened-headed (rw c.in-Ok.is at c.requires) in
    said-heard _ headed.accepted (c.end_words.ensures ∙ ap (λ g. ended g c.args.hearing.heard c.args.hearing.said) headed.says.boards)

pub returns-in-Err : goal.returns-in-Err
returns-in-Err c = said-refused _ (opened-refused (rw c.in-Err.is at c.requires)) c.sound.ensures
