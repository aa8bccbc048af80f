-- `listed::plus` meets its contract: a turn stores one of the six numbers behind those before it. Assumes nothing.
use mathlib.Core.Path.{◌≡◌, refl}
use Prim.Native.Nat.{◌*◌}
use native.Mathlib.Omega.{arith}
use Rattle.rules.specs.File.{most_systems}
use Rattle.typed_lists.specs.Lists.{per_listed, sixes}
use Rattle.typed_lists.proofs.MoreSystems.{six-small, six-none, six-more, one_more}
use Rattle.typed_lists.proofs.listed.plus.Goals as goal

pub overflow_mul-at : goal.overflow_mul-at
overflow_mul-at c = omega (arith, c.requires.0)

pub loop-k-init : goal.loop-k-init
loop-k-init c = λ list f. six-none (most_systems * per_listed) _ list c.args.set f

pub overflow_cast-numbers : goal.overflow_cast-numbers
overflow_cast-numbers c = omega (arith, six-small _ c.requires.1 c.loop-k.k c.loop-k-test.true)

pub overflow_add-numbers : goal.overflow_add-numbers
overflow_add-numbers c = omega (arith, c.requires.0)

pub loop-k-preserved : goal.loop-k-preserved
loop-k-preserved c =
    λ list f. six-more (most_systems * per_listed) _ list c.args.set (c.loop-k.invariant list f) c.loop-k-test.true (omega (arith, c.requires.0))

pub overflow_add-result : goal.overflow_add-result
overflow_add-result c =
    omega (arith, c.requires.0)

pub returns : goal.returns
returns c =
    let e : c.loop-k.k ≡ per_listed = omega (arith, c.loop-k-test.false) in
    record { count = refl; ruled = λ systems h. one_more _ h (rw e at (c.loop-k.invariant (sixes systems) h.numbers)) }
