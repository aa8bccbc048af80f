-- `refusals::total_of` meets its contract: the sum so far and the total of the weights not yet read make the whole total. Assumes nothing.
use mathlib.Core.Path.{◌≡◌}
use Prim.Native.Nat.{◌+◌, ◌*◌, ◌≤◌}
use lib.ListN.{drop}
use Rattle.rules.specs.Below.{total}
use Rattle.refusals.specs.Shared.{largest}
use Rattle.refusals.proofs.total_of.Given as goal

abbrev pub invariant-loop-weight : goal.invariant-loop-weight
invariant-loop-weight l = (l.sum ≤ largest * l.weight-index) × (l.sum + total (drop l.weight-index l.weights) ≡ total l.weights)
