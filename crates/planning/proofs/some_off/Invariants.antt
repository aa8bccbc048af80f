-- `some_off` has found none among the floats that it passed. Assumes nothing.
use mathlib.Core.Path.{◌≡◌}
use mathlib.Core.Bool.{false, not}
use lib.ListN.{get_or}
use Rattle.rules.specs.Below.{some}
use Rattle.rules.specs.Doubles.{on_grid}
use Rattle.doubles.specs.Floats.{bits_of}
use Rattle.planning.proofs.some_off.Given as goal

abbrev pub invariant-loop-float : goal.invariant-loop-float
invariant-loop-float l = some (λ k. not (on_grid (get_or (bits_of l.floats) k 0))) l.float-index ≡ false
