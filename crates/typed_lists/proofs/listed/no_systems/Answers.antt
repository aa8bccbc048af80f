-- `listed::no_systems` meets its contract. Assumes nothing.
use mathlib.Core.Path.{refl}
use native.Mathlib.Omega.{arith}
use Rattle.typed_lists.specs.Lists.{sixes}
use Rattle.typed_lists.proofs.listed.no_systems.Goals as goal

pub returns : goal.returns
unfolding sixes
returns c = record { count = refl; numbers = record { long = refl; few = omega arith; counted = refl; stands = refl } }
