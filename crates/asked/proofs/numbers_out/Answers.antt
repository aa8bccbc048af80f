-- `numbers_out` looks at the components' numbers, then at the boards'. Assumes nothing.
use mathlib.Core.Path.{sym, ap, ◌∙◌}
use mathlib.Core.Bool.{◌||◌}
use Rattle.rules.specs.Refusal.{some_above}
use Rattle.asked.proofs.numbers_out.Goals as goal

pub returns-then-above_unit : goal.returns-then-above_unit
returns-then-above_unit c = sym (ap (λ b. b || some_above c.args.all c.args.own.now) (sym c.above_unit.ensures ∙ c.if-above_unit.true))

pub returns : goal.returns
returns c =
    c.above_unit-2.ensures ∙ sym (ap (λ b. b || some_above c.args.all c.args.own.now) (sym c.above_unit.ensures ∙ c.if-above_unit.false))
