-- `deck::bad_start` meets its contract: both tests are the definition's. Assumes nothing.
use mathlib.Core.Path.{ap, ap₂, ◌∙◌}
use mathlib.Core.Bool.{not, ◌||◌}
use lib.Dec.{eqb}
use Rattle.rules.specs.Refusal.{bad_version}
use Rattle.deck.proofs.bad_start.Goals as goal

pub returns : goal.returns
returns c =
    ap₂ (λ b x. b || not (eqb x 0)) (c.version_out.ensures ∙ ap bad_version c.requires.is) c.number2.ensures
