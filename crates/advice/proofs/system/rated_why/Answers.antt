-- `system::rated_why` takes the tests of the definition of that name. Assumes nothing.
use mathlib.Core.Path.{ap, ◌∙◌}
use Prim.Native.Nat.{◌-◌}
use native.Mathlib.Omega.{arith}
use lib.ListN.{length}
use borrow.Author.Tests.{eq-eqb, ne_eqb}
use Rattle.rules.proofs.Accepted.{in-stretch}
use Rattle.advice.specs.Words.{because}
use Rattle.advice.specs.System.{above_why, range_why, rated_why}
use Rattle.advice.specs.declared.cause.Cause.TheVariants.{TooHeavy}
use Rattle.advice.proofs.system.rated_why.Goals as goal

pub overflow_sub-from : goal.overflow_sub-from
overflow_sub-from c =
    omega (arith, in-stretch c.args.system.a c.args.system.b (length c.args.survival.now) c.requires.stretch)

pub returns-then-number-eq-SURVIVAL : goal.returns-then-number-eq-SURVIVAL
unfolding rated_why
returns-then-number-eq-SURVIVAL c =
    rw (eq-eqb c.args.number 4 c.if-number-eq-SURVIVAL.true)
    (c.above_why.ensures
    ∙ ap (λ u. above_why u c.args.system.a c.args.system.b c.args.survival.now c.args.switchboards.now) (c.whole-unit.ensures ∙ c.is_decimal.ensures))

pub weight_from-weight-requires : goal.weight_from-weight-requires
weight_from-weight-requires c =
    let on-deck = in-stretch c.args.system.a c.args.system.b (length c.args.survival.now) c.requires.stretch in
    (omega (arith, on-deck), omega (arith, on-deck, c.requires.alike), omega (arith, c.requires.alike, c.requires.few))

pub returns-then-number-eq-WEIGHTS : goal.returns-then-number-eq-WEIGHTS
unfolding rated_why
returns-then-number-eq-WEIGHTS c =
    rw (ne_eqb c.args.number 4 c.if-number-eq-SURVIVAL.false, eq-eqb c.args.number 5 c.if-number-eq-WEIGHTS.true)
    (c.because.ensures ∙ ap (λ w. because TooHeavy w 0 0 0) c.weight_from-weight.ensures)

pub overflow_sub-upto : goal.overflow_sub-upto
overflow_sub-upto c =
    omega (arith, in-stretch c.args.system.a c.args.system.b (length c.args.survival.now) c.requires.stretch)

pub returns : goal.returns
unfolding rated_why
returns c =
    rw (ne_eqb c.args.number 4 c.if-number-eq-SURVIVAL.false, ne_eqb c.args.number 5 c.if-number-eq-WEIGHTS.false)
    (c.range_why.ensures ∙ ap (λ w. range_why c.args.system.rule (c.args.system.b - (c.args.system.a - 1)) w) c.weight_from-weight.ensures)
