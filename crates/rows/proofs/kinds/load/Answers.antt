-- `load` adds one carry more a turn. Assumes nothing.
use Prim.Native.Nat.{suc, ◌+◌}
use mathlib.Core.Path.{◌≡◌, refl}
use native.Mathlib.Omega.{arith}
use native.Mathlib.Numerals.{add-one}
use Rattle.rules.specs.Below.{sum_below}
use Rattle.rows.specs.Kinds.{load_of}
use Rattle.rows.proofs.Early.{load-le, load-more}
use Rattle.rows.proofs.kinds.load.Goals as goal
use Rattle.rows.proofs.kinds.load.Goals.{After-carry-sum}

pub loop-i-init : goal.loop-i-init
unfolding sum_below
loop-i-init c = refl

-- one component more
more : (c : After-carry-sum) → let o = c.before.before in let a = o.before.before.args in
    o.loop-i.sum + c.carry-sum.result ≡ load_of a.rule a.weights.now (suc o.loop-i.i)
more c = rw (load-more, c.carry-sum.ensures, c.loop-i.invariant)

pub overflow_add-sum : goal.overflow_add-sum
overflow_add-sum c =
    omega (arith, more ((goal.at.overflow_add-sum c).After-carry-sum), load-le c.requires (suc c.loop-i.i), c.requires.size_high)

pub loop-i-preserved : goal.loop-i-preserved
loop-i-preserved c = rw add-one (more ((goal.at.loop-i-preserved c).After-carry-sum))
