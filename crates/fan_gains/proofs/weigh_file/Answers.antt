-- `fan_gains::weigh_file` meets its contract: past the refusals the number is that of one of the file's systems. Assumes nothing.
use mathlib.Core.Path.{sym, ap, ◌∙◌}
use native.Mathlib.Omega.{arith}
use Rattle.rules.specs.declared.Worth.TheVariants.{Refused}
use Rattle.rules.specs.File.{gain_loading_of}
use Rattle.rules.proofs.Numbers.{number-some}
use Rattle.rules.proofs.Unless.{unless-none, unless-some}
use Rattle.systems.proofs.Answers.{opened-answer, numbered}
use Rattle.fan_gains.proofs.weigh_file.Goals as goal

pub overflow_sub-system : goal.overflow_sub-system
overflow_sub-system c =
    omega (arith, (numbered _ c.open.ensures c.in-Ok.ensures.head (sym c.in-Ok.ensures.refusal)).0)

pub weigh-requires : goal.weigh-requires
weigh-requires c = (numbered _ c.open.ensures c.in-Ok.ensures.head (sym c.in-Ok.ensures.refusal)).1

pub returns-in-Ok : goal.returns-in-Ok
unfolding gain_loading_of
returns-in-Ok c =
    c.weigh.ensures ∙ sym (opened-answer _ c.open.ensures Refused _ ∙ unless-none _ _ _ (sym c.in-Ok.ensures.refusal))

pub returns-in-Err : goal.returns-in-Err
unfolding gain_loading_of
returns-in-Err c =
    ap Refused (c.number.ensures ∙ c.in-Err.ensures.refusal)
    ∙ sym (opened-answer _ c.open.ensures Refused _ ∙ unless-some _ _ _ (λ none. number-some _ (c.in-Err.ensures.refusal ∙ none)))
