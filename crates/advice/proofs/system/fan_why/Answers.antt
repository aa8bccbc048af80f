-- `system::fan_why` takes the test of the definition of that name: 17, or what the system is refused by. Assumes nothing.
use mathlib.Core.Path.{ap, ◌∙◌}
use borrow.Author.Tests.{eq-eqb, ne_eqb}
use Rattle.advice.specs.declared.cause.Cause.TheVariants.{FanOutside}
use Rattle.advice.specs.Words.{because}
use Rattle.advice.specs.System.{fan_why}
use Rattle.advice.proofs.system.fan_why.Goals as goal

pub returns-then-number-eq-FAN : goal.returns-then-number-eq-FAN
unfolding fan_why
returns-then-number-eq-FAN c =
    rw (eq-eqb c.args.number 17 c.if-number-eq-FAN.true) (c.because.ensures ∙ ap (λ s. because FanOutside c.args.fan s.a s.b 0) c.system_in-system.ensures)

pub returns : goal.returns
unfolding fan_why
returns c =
    rw (ne_eqb c.args.number 17 c.if-number-eq-FAN.false) c.system_why.ensures
