-- `name_fans` meets its contract: the parts that are left name the rest. The measure is what is left. Assumes nothing.
use mathlib.Core.Path.{◌≡◌}
use Prim.Native.Nat.{◌+◌, ◌-◌, ◌≤◌}
use lib.ListN.{length}
use Rattle.naming.specs.Named.{named_all, named_in}
use Rattle.naming.proofs.Parts.{left}
use Rattle.naming.proofs.name_fans.Given as goal

abbrev pub invariant-loop-at : goal.invariant-loop-at
invariant-loop-at l = (l.at ≤ length l.word + 1) × (named_all l.n (left l.word l.at) l.named ≡ named_in l.n l.word l.state)

abbrev pub decreases-loop-at : goal.decreases-loop-at
decreases-loop-at l = length l.word + 1 - l.at
