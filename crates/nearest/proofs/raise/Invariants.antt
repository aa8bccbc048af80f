-- `raise` keeps the number times its power of two, and ends at the first that is no less than the unit. Assumes nothing.
use mathlib.Core.Path.{◌≡◌}
use Prim.Native.Nat.{◌-◌, ◌*◌, ◌^◌, ◌≤◌, ◌<◌}
use Rattle.nearest.proofs.raise.Given as goal

abbrev pub invariant-loop-near : goal.invariant-loop-near
invariant-loop-near l = (0 < l.near) × (l.near < 2 * l.unit) × (l.field ≤ 1022) × (l.near * 2 ^ l.field ≡ l.x * 2 ^ 1022)

abbrev pub decreases-loop-near : goal.decreases-loop-near
decreases-loop-near l = l.unit - l.near
