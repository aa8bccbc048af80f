-- `loading::foambeetle_unit` meets its contract: 0 where the file is refused, else the unit of its version. Assumes nothing.
use mathlib.Core.Path.{sym, ap, ◌∙◌}
use Rattle.rules.specs.State.{unit_of}
use Rattle.rules.proofs.Unless.{unless-none, unless-some}
use Rattle.deck.proofs.Outcome.{opened-headed, opened-refused}
use Rattle.loading.specs.Outcome.{parts_of}
use Rattle.loading.proofs.foambeetle_unit.Goals as goal

pub returns-in-Err : goal.returns-in-Err
unfolding parts_of
returns-in-Err c = record { number = sym (unless-some _ _ _ (opened-refused c.in-Err.ensures)) }

pub returns-in-Ok : goal.returns-in-Ok
unfolding parts_of
returns-in-Ok c =
    let headed = opened-headed c.in-Ok.ensures in
    record { number = c.whole.ensures ∙ c.is_decimal-decimal.ensures ∙ ap unit_of headed.says.version ∙ sym (unless-none _ _ _ headed.accepted) }
