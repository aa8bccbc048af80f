-- `reach_paid` goes on while debts are paid. Assumes nothing.
use mathlib.Core.Path.{◌≡◌, refl, ap}
use native.Mathlib.Omega.{arith}
use Rattle.gaps.proofs.Reaching.{passable, failed-is, stands-stepping, stands-more}
use Rattle.gaps.proofs.free.reach_paid.Goals as goal

pub paid-fails-requires : goal.paid-fails-requires
paid-fails-requires c =
    let debt = failed-is c.args.r c.args.s.free (ap (λ m. m.owed) c.requires.free) c.failed-m.ensures in
    (passable c.loop-left.invariant.holds debt (omega arith), rw debt (omega (arith, c.requires.done (omega arith))))

pub more-hand-requires : goal.more-hand-requires
more-hand-requires c =
    let none = ap (λ m. m.owed) c.requires.free in
    stands-stepping c.loop-left.invariant (omega arith) (rw (failed-is c.args.r c.args.s.free none c.failed-m.ensures) at c.paid-fails.ensures) none

pub loop-left-preserved : goal.loop-left-preserved
loop-left-preserved c =
    let debt = failed-is c.args.r c.args.s.free (ap (λ m. m.owed) c.requires.free) c.failed-m.ensures in
    stands-more c.loop-left.invariant (omega arith) (rw debt at c.paid-fails.ensures) c.more-hand.ensures.step c.more-hand.ensures.put

pub returns : goal.returns
returns c =
    let e : c.loop-left.left ≡ c.args.upto = omega arith in
    record { free = c.requires.free; left = refl; holds = rw e at c.loop-left.invariant.holds; kept = c.loop-left.invariant.kept }
