-- `fan_out` gives 17 where the fan is outside. Assumes nothing.
use mathlib.Core.Path.{refl, sym, ap, ◌∙◌}
use mathlib.Core.Bool.{cond}
use Rattle.rules.proofs.Unless.{after_none}
use Rattle.swaps.proofs.fan_out.Goals as goal

pub returns-then-outside : goal.returns-then-outside
returns-then-outside c = sym (after_none 0 _ refl ∙ ap (λ b. cond b 17 0) (sym c.outside-outside.ensures ∙ c.if-outside.true))

pub returns : goal.returns
returns c = sym (after_none 0 _ refl ∙ ap (λ b. cond b 17 0) (sym c.outside-outside.ensures ∙ c.if-outside.false))
