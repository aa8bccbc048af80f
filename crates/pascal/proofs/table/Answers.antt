-- The program's own table passes the test of Pascal's rule: the checker computes it here, once. Assumes nothing.
use mathlib.Core.Path.{refl}
use Rattle.pascal.specs.Folded.{every}
use Rattle.pascal.proofs.table.Goals as goal

pub returns : goal.returns
unfolding every
returns c = refl
