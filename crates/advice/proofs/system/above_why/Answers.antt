-- `system::above_why` takes the test of the definition of that name, on what was looked through. Assumes nothing.
use mathlib.Core.Path.{◌≡◌, ap, ◌∙◌}
use Prim.Native.Nat.{◌+◌}
use native.Mathlib.Omega.{arith}
use native.Mathlib.Nat.{sub-zero}
use lib.ListN.{length}
use borrow.Author.Tests.{lt-ltb, le-ltb}
use Rattle.rules.proofs.Accepted.{in-stretch}
use Rattle.advice.specs.Words.{because}
use Rattle.advice.specs.System.{above_from, above_why}
use Rattle.advice.specs.declared.cause.Cause.TheVariants.{FanAbove, BoardAbove}
use Rattle.advice.proofs.system.above_why.Goals as goal

pub overflow_sub-a : goal.overflow_sub-a
overflow_sub-a c =
    omega (arith, in-stretch c.args.a c.args.b (length c.args.survival.now) c.requires.stretch)

pub above_from-i-requires : goal.above_from-i-requires
above_from-i-requires c =
    let on-deck = in-stretch c.args.a c.args.b (length c.args.survival.now) c.requires.stretch in
    (omega (arith, on-deck), omega (arith, on-deck))

pub returns-then-i-upto : goal.returns-then-i-upto
unfolding above_why
returns-then-i-upto c =
    rw (← c.above_from-i.ensures.is, lt-ltb _ _ c.if-i-upto.true)
    (c.because.ensures ∙ ap (λ p. because FanAbove (c.above_from-i.result + 1) p c.args.unit 0) c.number_at.ensures)

pub returns : goal.returns
unfolding above_why
returns c =
    let found : c.above_from-j.result ≡ above_from c.args.unit c.args.switchboards.now 0 (length c.args.switchboards.now) = rw (sub-zero (length c.args.switchboards.now)) at c.above_from-j.ensures.is in
    rw (← c.above_from-i.ensures.is, le-ltb _ _ c.if-i-upto.false, ← found)
    (c.because-2.ensures ∙ ap (λ p. because BoardAbove (c.above_from-j.result + 1) p c.args.unit 0) c.number_at-2.ensures)
