-- `verdict::first_window` meets its contract: no start that was passed has a failing window. Assumes nothing.
use mathlib.Core.Path.{◌≡◌, sym}
use native.Mathlib.Omega.{arith}
use borrow.Author.Tests.{le-leb, lt-leb}
use Rattle.rules.proofs.Lowest.{nowhere-yet, passed, found, nowhere}
use Rattle.verdict.proofs.first_window.Goals as goal

pub loop-a-init : goal.loop-a-init
loop-a-init c = nowhere-yet _

pub returns-then-need-held_from : goal.returns-then-need-held_from
returns-then-need-held_from c =
    sym
    (found _ _ _ c.loop-a-test.true c.loop-a.invariant
    (le-leb _ _ (rw c.held_from.ensures at c.if-need-held_from.true)))

pub loop-a-preserved : goal.loop-a-preserved
loop-a-preserved c =
    passed _ _ c.loop-a.invariant (lt-leb _ _ (rw c.held_from.ensures at c.if-need-held_from.false))

pub returns : goal.returns
returns c =
    let e : c.loop-a.a ≡ c.args.starts = omega arith in
    sym (nowhere _ _ (rw e at c.loop-a.invariant))
