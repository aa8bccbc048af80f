-- `ring` takes the clean ones back a component at a time. Assumes nothing.
use mathlib.Core.Path.{◌≡◌}
use Prim.Native.Nat.{◌-◌}
use Rattle.memory.specs.Owed.{clean_after}
use Rattle.units.specs.Step.{whole}
use Rattle.gaps.proofs.Whole.{Closing}
use Rattle.gaps.proofs.ring.Given as goal

abbrev pub invariant-loop-i : goal.invariant-loop-i
invariant-loop-i l =
    (l.hand ≡ clean_after l.r (l.n - l.i)) × Closing (whole l.decimal) l.r l.survival l.initial.table l.i l.known l.ends l.table
