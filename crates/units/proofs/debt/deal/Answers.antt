-- `deal` has each number's own share made. Assumes nothing.
use native.Mathlib.Omega.{arith}
use Rattle.units.proofs.debt.deal.Goals as goal

pub share-of_p-requires : goal.share-of_p-requires
share-of_p-requires c = (c.requires.unit, c.requires.survival)

pub share-of_q-requires : goal.share-of_q-requires
share-of_q-requires c = (c.requires.unit, omega (arith, c.requires.rest))

pub returns : goal.returns
returns c = record { of_p = c.share-of_p.ensures; of_q = rw c.requires.rest at c.share-of_q.ensures }
