-- `ring` is two lookups. Assumes nothing.
use mathlib.Core.Path.{◌≡◌}
use Prim.Native.Nat.{◌+◌, ◌*◌, ◌^◌, ◌<◌}
use native.Mathlib.Nat.{mul-le-mul}
use native.Mathlib.Omega.{arith}
use borrow.Author.Tests.{ne_eqb}
use Rattle.counts.specs.Ways.{ring_of}
use Rattle.counts.proofs.Apart.{ring-fits}
use Rattle.counts.proofs.ways.ring.Goals as goal
use Rattle.counts.proofs.ways.ring.Goals.{After-left-2}

pub returns-then-j-eq0 : goal.returns-then-j-eq0
unfolding ring_of
returns-then-j-eq0 c = rw c.if-j-eq0.true

pub left-requires : goal.left-requires
left-requires c = (c.requires.0.size, omega (arith, mul-le-mul c.requires.0.few c.requires.0.owes), c.requires.0.folded)

pub left-requires-2 : goal.left-requires-2
left-requires-2 c =
    (omega (arith, c.requires.0.size), omega (arith, mul-le-mul c.requires.0.few c.requires.0.owes), c.requires.0.folded)

-- both terms are the ring's count, which fits
both : (c : After-left-2)
    → (let a = c.args in
    (c.left.result + a.owed * c.left-2.result ≡ ring_of a.owed a.n a.j) × (ring_of a.owed a.n a.j < 2 ^ 64))
unfolding ring_of
both c = (
  rw (ne_eqb _ _ c.if-j-eq0.false, c.left.ensures, c.left-2.ensures),
  ring-fits c.args.owed c.args.n c.args.j (omega arith) (omega arith),
)

pub overflow_mul-result : goal.overflow_mul-result
overflow_mul-result c = omega (arith, both ((goal.at.overflow_mul-result c).After-left-2))

pub overflow_add-result : goal.overflow_add-result
overflow_add-result c = omega (arith, both ((goal.at.overflow_add-result c).After-left-2))

pub returns : goal.returns
returns c = (both ((goal.at.returns c).After-left-2)).0
