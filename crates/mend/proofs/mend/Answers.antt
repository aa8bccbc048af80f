-- `mend::mend` meets its contract, on a refusal of the file and on none. Assumes nothing.
use mathlib.Core.Path.{sym, ◌∙◌}
use Rattle.rules.proofs.Numbers.{number-some}
use Rattle.mend.proofs.Looking.{looks_on}
use Rattle.mend.proofs.Outcome.{refused-file}
use Rattle.mend.proofs.mend.Goals as goal

pub returns-in-Err : goal.returns-in-Err
returns-in-Err c =
    refused-file (c.number.ensures ∙ c.in-Err.ensures.refusal) (λ none. number-some _ (sym c.number.ensures ∙ none))

pub mend_by-requires : goal.mend_by-requires
mend_by-requires c = looks_on c.in-Ok.ensures
