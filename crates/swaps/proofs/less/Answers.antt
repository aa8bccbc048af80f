-- `less` subtracts two numbers within the unit as signed ones: their difference fits, and is `sub_ℕ`. Assumes nothing.
use native.Mathlib.Omega.{arith}
use mir.Syntax.{w64}
use mir.ValLaws.{to_z_pos, to_z-of_z}
use Rattle.rules.proofs.Differences.{signed-less}
use Rattle.swaps.proofs.Replaced.{less-fits}
use Rattle.swaps.proofs.less.Goals as goal

pub overflow_cast-result : goal.overflow_cast-result
overflow_cast-result c = record { sfits = omega (arith, c.requires) }

pub overflow_cast-result-2 : goal.overflow_cast-result-2
overflow_cast-result-2 c = record { sfits = omega (arith, c.requires) }

pub overflow_sub-result : goal.overflow_sub-result
overflow_sub-result c =
    rw (to_z_pos w64 c.args.a (omega (arith, c.requires)), to_z_pos w64 c.args.b (omega (arith, c.requires)), signed-less c.args.a c.args.b)
    (less-fits c.args.a c.args.b c.requires.0 c.requires.1)

pub returns : goal.returns
returns c =
    rw (to_z_pos w64 c.args.a (omega (arith, c.requires)), to_z_pos w64 c.args.b (omega (arith, c.requires)), signed-less c.args.a c.args.b)
    (to_z-of_z w64 _ (less-fits c.args.a c.args.b c.requires.0 c.requires.1))
