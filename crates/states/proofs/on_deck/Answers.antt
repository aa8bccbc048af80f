-- `on_deck` meets its contract, case by case. Assumes nothing.
use mathlib.Core.Path.{ap}
use Rattle.rules.specs.declared.Verdict.TheVariants.{Fails}
use borrow.Author.Rules.{rules}
use Rattle.states.proofs.on_deck.Goals as goal

pub deck_place-requires : goal.deck_place-requires
deck_place-requires c =
    (c.requires.start.0, c.requires.start.1, rw c.in-Fails.is at c.requires.few)

pub returns-in-Fails : goal.returns-in-Fails
returns-in-Fails c = rw c.in-Fails.is (ap Fails c.deck_place.ensures)

pub returns-in-Refused : goal.returns-in-Refused
returns-in-Refused c = rw c.in-Refused.is
