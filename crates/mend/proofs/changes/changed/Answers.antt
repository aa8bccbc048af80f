-- `changes::changed` meets its contract: a turn counts one place more. Assumes nothing.
use mathlib.Core.Path.{◌≡◌, refl, ap}
use mathlib.Core.Bool.{Bool, true, false, cond}
use Prim.Native.Nat.{ℕ, ◌≤◌}
use native.Mathlib.Omega.{arith}
use Rattle.rules.specs.Below.{held}
use Rattle.rules.specs.Mending.{differs}
use Rattle.rules.proofs.Changes.{count_most}
use Rattle.mend.proofs.Putting.{count-more}
use Rattle.mend.proofs.changes.changed.Goals as goal

-- at most one
one-most : {x : ℕ} (b : Bool) → x ≡ cond b 1 0 → x ≤ 1
one-most true e = omega arith
one-most false e = omega arith

pub loop-i-init : goal.loop-i-init
unfolding held
loop-i-init c = refl

pub overflow_add-count : goal.overflow_add-count
overflow_add-count c =
    omega (arith, c.loop-i.invariant, count_most c.args.old.now c.args.new.now c.loop-i.i, one-most (differs c.args.old.now c.args.new.now c.loop-i.i) c.change-count.ensures, c.requires.0, c.ranges.k)

pub loop-i-preserved : goal.loop-i-preserved
loop-i-preserved c =
    count-more (differs c.args.old.now c.args.new.now) c.loop-i.i c.loop-i.invariant c.change-count.ensures

pub returns : goal.returns
returns c =
    let e : c.loop-i.i ≡ c.args.k = omega arith in
    rw c.loop-i.invariant (ap (held (differs c.args.old.now c.args.new.now)) e)
