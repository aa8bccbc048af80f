-- `fours_in` meets its contract: the array is filled from the front, one number of four bytes a turn. Assumes nothing.
use native.Mathlib.Omega.{arith}
use Rattle.rules.specs.File.{survival_bytes}
use Rattle.arrays.proofs.Lists.{padded-none, padded-more, padded-all}
use Rattle.layout.proofs.Numbers.{spelled-fits}
use Rattle.arrays.proofs.fours_in.Goals as goal

pub loop-i-init : goal.loop-i-init
loop-i-init g c = padded-none _ _ _

pub overflow_cast-numbers : goal.overflow_cast-numbers
overflow_cast-numbers g c =
    record { fits = spelled-fits survival_bytes _ _ c.number4.ensures (λ i. (c.type_inv.bytes i).fits) }

pub loop-i-preserved : goal.loop-i-preserved
loop-i-preserved g c = padded-more _ _ _ c.loop-i.invariant (omega arith) c.number4.ensures

pub returns : goal.returns
returns g c = padded-all _ _ _ c.loop-i.invariant (omega arith)
