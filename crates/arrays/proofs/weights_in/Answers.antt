-- `weights_in` meets its contract: the array is filled from the front, one number of two bytes a turn. Assumes nothing.
use native.Mathlib.Omega.{arith}
use Rattle.rules.specs.File.{weight_bytes}
use Rattle.arrays.proofs.Lists.{padded-none, padded-more}
use Rattle.layout.proofs.Numbers.{spelled-fits}
use Rattle.arrays.proofs.weights_in.Goals as goal

pub loop-i-init : goal.loop-i-init
loop-i-init c = padded-none _ _ _

pub overflow_cast-weights : goal.overflow_cast-weights
overflow_cast-weights c =
    record { fits = spelled-fits weight_bytes _ _ c.number2.ensures (λ i. (c.type_inv.bytes i).fits) }

pub loop-i-preserved : goal.loop-i-preserved
loop-i-preserved c = padded-more _ _ _ c.loop-i.invariant (omega arith) c.number2.ensures
