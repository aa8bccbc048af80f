-- `hearing::hear_word` meets its contract, test by test. Assumes nothing.
use mathlib.Core.Path.{sym, ap, ◌∙◌}
use borrow.Author.Tests.{eq-eqb, ne_eqb}
use Rattle.deckstate.specs.Words.{board_heard, heard}
use Rattle.deckstate.proofs.hearing.hear_word.Goals as goal

pub returns-then-said-ne0 : goal.returns-then-said-ne0
unfolding heard
returns-then-said-ne0 c = rw (ne_eqb _ _ c.if-said-ne0.true)

pub returns-then-said : goal.returns-then-said
unfolding heard
returns-then-said c =
    rw (eq-eqb _ 0 c.if-said-ne0.false, c.if-said.true)
    (c.board_heard.ensures ∙ ap (λ number. board_heard c.args.g c.args.boards.now c.args.at number c.args.said.state) c.number_of.ensures)

pub returns-then-same : goal.returns-then-same
unfolding heard
returns-then-same c =
    rw (eq-eqb _ 0 c.if-said-ne0.false, c.if-said.false, sym c.same.ensures ∙ c.if-same.true) c.board_asked.ensures

pub returns : goal.returns
unfolding heard
returns c =
    rw (eq-eqb _ 0 c.if-said-ne0.false, c.if-said.false, sym c.same.ensures ∙ c.if-same.false) c.fans_heard.ensures
