-- `hearing::silence` meets its contract: nothing was heard. Assumes nothing.
use mathlib.Core.Path.{sym, subst}
use Rattle.options.specs.Words.{Sound}
use Rattle.options.proofs.Heard.{nothing-sound}
use Rattle.deckstate.proofs.hearing.silence.Goals as goal

pub returns : goal.returns
returns c =
    ((λ i. record { asked = c.nothing-asked.ensures i; heard = 0; said = c.sound-said.ensures i }), subst Sound (sym c.nothing-asked.ensures) nothing-sound)
