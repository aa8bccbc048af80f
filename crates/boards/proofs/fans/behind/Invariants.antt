-- `fans::behind` meets its contract: the numbers passed stand at the copy's front, those of lost fans 0. Assumes nothing.
use mathlib.Core.Path.{◌≡◌}
use mathlib.Core.Bool.{cond}
use Prim.Native.Nat.{suc}
use lib.ListN.{length, take}
use Rattle.rules.specs.Below.{list_below}
use Rattle.rules.specs.State.{number_of}
use Rattle.rules.specs.Boards.{lost}
use Rattle.rules.specs.Refusal.{most}
use Rattle.boards.proofs.fans.behind.Given as goal

abbrev pub invariant-loop-i : goal.invariant-loop-i
invariant-loop-i l = (length l.numbers ≡ most) × (take l.i l.numbers ≡ list_below l.i (λ k. cond (lost l.boards l.out (suc k)) 0 (number_of l.survival (suc k))))
