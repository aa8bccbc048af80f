-- `rate` refuses, or answers the range that is worked of what is not refused. Assumes nothing.
use mathlib.Core.Path.{sym, ◌∙◌}
use Rattle.rules.proofs.Numbers.{number-some}
use Rattle.figures.proofs.Outcome.{answered-refused, answered-worked}
use Rattle.figures.proofs.rate.Goals as goal

pub returns-in-Err : goal.returns-in-Err
returns-in-Err c = answered-refused (c.number.ensures ∙ c.in-Err.ensures) (λ none. number-some _ (sym c.number.ensures ∙ none))

pub work-ends-requires : goal.work-ends-requires
work-ends-requires c = sym c.in_default.ensures

pub returns : goal.returns
returns c = answered-worked (sym c.in_default.ensures) c.work-ends.ensures
