-- `deck::elsewhere` meets its contract: the number read is the field's. Assumes nothing.
use mathlib.Core.Path.{ap}
use mathlib.Core.Bool.{not}
use lib.Dec.{eqb}
use Rattle.deck.proofs.elsewhere.Goals as goal

pub returns : goal.returns
returns c = ap (λ x. not (eqb x c.args.from)) c.number4.ensures
