-- `hearing::board_heard` meets its contract: a board that there is, or wrong. Assumes nothing.
use mathlib.Core.Path.{sym, ap, ◌∙◌}
use borrow.Author.Tests.{not-true, not-false}
use Rattle.rules.specs.Below.{within}
use Rattle.deckstate.specs.Words.{sound}
use Rattle.deckstate.proofs.hearing.board_heard.Goals as goal

pub returns-then-outside : goal.returns-then-outside
returns-then-outside c =
    rw (not-true (within 1 c.args.number c.args.g) (sym c.outside.ensures ∙ c.if-outside.true)) c.faulty.ensures

pub returns : goal.returns
returns c =
    rw (not-false (within 1 c.args.number c.args.g) (sym c.outside.ensures ∙ c.if-outside.false)) (c.sound.ensures ∙ ap sound c.board_failed.ensures)
