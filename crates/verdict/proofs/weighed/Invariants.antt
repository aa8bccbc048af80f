-- `verdict::weighed` meets its contract: the sum so far is what is down of the components passed. Assumes nothing.
use mathlib.Core.Path.{◌≡◌}
use Prim.Native.Nat.{◌*◌, ◌≤◌}
use Rattle.rules.specs.Verdict.{weight_down}
use Rattle.refusals.specs.Shared.{largest}
use Rattle.verdict.proofs.weighed.Given as goal

abbrev pub invariant-loop-i : goal.invariant-loop-i
invariant-loop-i l = (l.sum ≤ largest * l.i) × (l.sum ≡ weight_down l.i l.weights l.w)
