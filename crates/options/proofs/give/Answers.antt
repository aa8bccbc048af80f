-- `give` meets its contract: the option is one of the table's. Assumes nothing.
use native.Mathlib.Omega.{arith}
use Rattle.options.proofs.give.Goals as goal

pub offset_bounds-given-k : goal.offset_bounds-given-k
offset_bounds-given-k c = omega (arith, c.requires.0)

pub bounds-given-k : goal.bounds-given-k
bounds-given-k c = omega (arith, c.requires.0)
