-- `percent::last_digits` meets its contract: what is left of the number spells the digits still to be written. Assumes nothing.
use mathlib.Core.Path.{◌≡◌}
use mathlib.Core.List.{◌++◌}
use Prim.Native.Nat.{◌≤◌}
use lib.ListN.{length, drop}
use Rattle.percent.specs.Percent.{point_digits, last_digits}
use Rattle.percent.proofs.last_digits.Given as goal

abbrev pub invariant-places : goal.invariant-places
invariant-places l =
    (l.k ≤ point_digits) × (length l.digits ≡ point_digits) × (last_digits l.k l.left ++ drop l.k l.digits ≡ last_digits point_digits l.n)

abbrev pub decreases-places : goal.decreases-places
decreases-places l = l.k
