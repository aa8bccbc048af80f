-- `why::above_from` meets its contract: what is found from the place at hand on is what is found from the first. Assumes nothing.
use mathlib.Core.Path.{◌≡◌, ◌∙◌}
use native.Mathlib.Omega.{arith}
use Rattle.advice.proofs.Scanning.{none-searched, one-searched, found, not_found}
use Rattle.advice.proofs.why.above_from.Goals as goal

pub loop-i-init : goal.loop-i-init
loop-i-init c = none-searched _ _ _ _ c.requires.0

pub returns-then-from-limit : goal.returns-then-from-limit
returns-then-from-limit c =
    record { is = found c.loop-i.invariant c.loop-i-test.true (rw c.from.ensures at c.if-from-limit.true); within = omega (arith, c.loop-i.invariant.passed) }

pub loop-i-preserved : goal.loop-i-preserved
loop-i-preserved c =
    one-searched c.loop-i.invariant c.loop-i-test.true (rw c.from.ensures at c.if-from-limit.false)

pub returns : goal.returns
returns c =
    let all : c.args.upto ≡ c.loop-i.i = omega (arith, c.loop-i.invariant.passed, c.loop-i-test.false) in
    record { is = all ∙ not_found c.loop-i.invariant c.loop-i-test.false; within = omega arith }
