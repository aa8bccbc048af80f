-- `above_unit` says whether one of the numbers it passed is above the unit. Assumes nothing.
use mathlib.Core.Path.{◌≡◌, refl, sym, ◌∙◌}
use mathlib.Core.Bool.{or-true, or-false}
use native.Mathlib.Omega.{arith}
use native.Mathlib.Numerals.{add-one}
use lib.Dec.{ltb}
use lib.ListN.{length, get_or}
use borrow.Author.Tests.{lt-ltb, le-ltb}
use Rattle.rules.specs.Below.{some}
use Rattle.rules.specs.Refusal.{some_above}
use Rattle.asked.proofs.above_unit.Goals as goal
use Rattle.asked.proofs.above_unit.Goals.{then-most-number, else-most-number}

pub loop-number-init : goal.loop-number-init
unfolding some
loop-number-init c = refl

pub loop-number-preserved : goal.loop-number-preserved
unfolding some
loop-number-preserved c =
    let passed = some (λ k. ltb c.args.all (get_or c.args.survival.now k 0)) c.loop-number.number-index in
    rw add-one
    (elim c.if-most-number.branch [
      | then-most-number w ↦ w.above-is ∙ rw (lt-ltb _ _ w.if-most-number.true) (sym (or-true passed))
      | else-most-number w ↦ w.above-is ∙ c.loop-number.invariant ∙ rw (le-ltb _ _ w.if-most-number.false) (sym (or-false passed))
    ])

pub returns : goal.returns
unfolding some_above
returns c =
    let e : c.loop-number.number-index ≡ length c.args.survival.now = omega arith in
    rw e at c.loop-number.invariant
