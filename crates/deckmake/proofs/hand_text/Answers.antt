-- `hand_text` meets its contract: a read that failed has failed. Assumes nothing.
use mathlib.Core.Path.{refl}
use mathlib.Core.Logic.{inr}
use Rattle.deckmake.proofs.hand_text.Goals as goal

pub returns-then-text : goal.returns-then-text
returns-then-text c = record { ends_by = λ bytes h. inr refl; status = refl }
