-- `printing::refused` meets its contract: the front is refused as the whole input is. Assumes nothing.
use lib.Dec.{eqb}
use mathlib.Core.Bool.{not}
use mathlib.Core.Path.{ap, ◌∙◌}
use Rattle.printing.proofs.Printed.{refused-is}
use Rattle.printing.proofs.refused.Goals as goal

pub returns : goal.returns
returns c =
    record { tells = λ input front. c.is_err.ensures.value ∙ refused-is _ ∙ ap (λ r. not (eqb r 0)) (c.open-opened.ensures.refusal ∙ c.front_of.ensures.refusal input front) }
