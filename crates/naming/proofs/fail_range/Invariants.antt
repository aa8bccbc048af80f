-- `fail_range` meets its contract: the fans before the one at hand have failed. Assumes nothing.
use mathlib.Core.Path.{◌≡◌}
use Prim.Native.Nat.{◌-◌}
use Rattle.naming.specs.Named.{many_failed}
use Rattle.naming.proofs.fail_range.Given as goal

abbrev pub invariant-loop-fan : goal.invariant-loop-fan
invariant-loop-fan l = l.after ≡ many_failed l.state l.from (l.fan - l.from)
