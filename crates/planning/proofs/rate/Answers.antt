-- `rate` refuses, or takes low from the rating of the lower list and high from that of the upper. Assumes nothing.
use mathlib.Core.Path.{sym, ◌∙◌}
use Rattle.rules.proofs.Numbers.{number-some}
use Rattle.planning.proofs.Stretches.{kept-planned}
use Rattle.planning.proofs.Outcome.{answered-refused, answered-worked}
use Rattle.planning.proofs.rate.Goals as goal

pub returns-in-Err : goal.returns-in-Err
returns-in-Err c = answered-refused (c.number.ensures ∙ c.in-Err.ensures) (λ none. number-some _ (sym c.number.ensures ∙ none))

pub rate_list-lower-requires : goal.rate_list-lower-requires
rate_list-lower-requires c = sym c.in_default.ensures

pub rate_list-upper-requires : goal.rate_list-upper-requires
rate_list-upper-requires c =
    kept-planned _ _ (sym c.in_default.ensures) _ c.rate_list-lower.ensures.kept

pub returns : goal.returns
returns c =
    answered-worked (sym c.in_default.ensures) c.rate_list-lower.ensures c.rate_list-upper.ensures
