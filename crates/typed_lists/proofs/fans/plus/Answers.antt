-- `fans::plus` meets its contract: after i turns there are i fans more. Assumes nothing.
use mathlib.Core.Path.{◌≡◌}
use native.Mathlib.Omega.{arith}
use Rattle.typed_lists.proofs.MoreFans.{none_more, one_more}
use Rattle.typed_lists.proofs.fans.plus.Goals as goal

pub loop-init : goal.loop-init
loop-init c = none_more _ _ _ _ _

pub plus_one-all-requires : goal.plus_one-all-requires
plus_one-all-requires c = omega (arith, c.loop.invariant.count, c.requires)

pub loop-preserved : goal.loop-preserved
loop-preserved c = one_more c.loop.invariant c.plus_one-all.ensures

pub returns : goal.returns
returns c =
    let e : c.loop.counter ≡ c.args.more = omega (arith, c.loop-test.false) in
    rw e at c.loop.invariant
