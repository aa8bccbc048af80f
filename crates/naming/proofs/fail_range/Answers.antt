-- `fail_range` meets its contract: the fans before the one at hand have failed. Assumes nothing.
use mathlib.Core.Path.{◌≡◌, sym, ap, ◌∙◌}
use Prim.Native.Nat.{suc, ◌+◌, ◌-◌}
use native.Mathlib.Omega.{arith}
use Rattle.states.specs.States.{fan_failed}
use Rattle.naming.specs.Named.{many_failed}
use Rattle.naming.proofs.Parts.{none-failed, one-failed}
use Rattle.naming.proofs.fail_range.Goals as goal

pub loop-fan-init : goal.loop-fan-init
loop-fan-init c = sym (none-failed _ _)

pub fan_failed-after-requires : goal.fan_failed-after-requires
fan_failed-after-requires c = omega (arith, c.loop-fan.auto.fan, c.requires, c.loop-fan-test.true)

pub loop-fan-preserved : goal.loop-fan-preserved
loop-fan-preserved c =
    c.fan_failed-after.ensures ∙ ap (λ s. fan_failed s c.loop-fan.fan) c.loop-fan.invariant ∙ one-failed c.args.state c.args.from c.loop-fan.fan c.loop-fan.auto.fan

pub returns : goal.returns
returns c =
    let all : c.loop-fan.fan - c.args.from ≡ suc c.args.to - c.args.from = omega (arith, c.loop-fan.auto.fan-end, c.requires, c.loop-fan-test.false) in
    c.loop-fan.invariant ∙ ap (many_failed c.args.state c.args.from) all

-- the range's last fan
pub returns-2 : goal.returns-2
returns-2 c =
    let all : c.loop-fan.fan + 1 - c.args.from ≡ suc c.args.to - c.args.from = omega (arith, c.loop-fan-test.true) in
    c.fan_failed-after.ensures ∙ ap (λ s. fan_failed s c.loop-fan.fan) c.loop-fan.invariant ∙ one-failed c.args.state c.args.from c.loop-fan.fan c.loop-fan.auto.fan
    ∙ ap (many_failed c.args.state c.args.from) all
