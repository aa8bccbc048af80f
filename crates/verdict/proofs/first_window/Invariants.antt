-- `verdict::first_window` meets its contract: no start that was passed has a failing window. Assumes nothing.
use mathlib.Core.Path.{◌≡◌}
use mathlib.Core.Bool.{false}
use lib.Dec.{leb}
use Rattle.rules.specs.Below.{some}
use Rattle.rules.specs.State.{held_in}
use Rattle.verdict.proofs.first_window.Given as goal

abbrev pub invariant-loop-a : goal.invariant-loop-a
invariant-loop-a l = some (λ s. leb l.need (held_in l.n s l.w l.width)) l.a ≡ false
