-- `run` meets its contract: what was read is within the buffer, and what follows can be added. Assumes nothing.
use native.Mathlib.Omega.{arith}
use Rattle.deckmend.proofs.run.Goals as goal

pub mend-requires : goal.mend-requires
mend-requires c =
    (omega (arith, c.filled.ensures, c.read_whole-whole.ensures.front.within), omega (arith, c.rest.ensures, c.read_whole-whole.ensures.few))
