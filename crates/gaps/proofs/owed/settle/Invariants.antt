-- `settle` has the shares made, then takes a debt back a component at a time and writes the value of each memory that it comes to. Assumes nothing.
use Prim.Native.Nat.{◌+◌}
use Rattle.places.specs.Cells.{Written}
use Rattle.places.specs.Map.{half}
use Rattle.gaps.specs.Gaps.{settled_value}
use Rattle.units.specs.Step.{whole}
use Rattle.gaps.proofs.Paying.{Back}
use Rattle.gaps.proofs.owed.settle.Given as goal

abbrev pub invariant-loop-i : goal.invariant-loop-i
invariant-loop-i l =
    Back (whole l.decimal) l.r 0 0 0 l.survival l.i l.hand l.ends × Written (settled_value (whole l.decimal) l.r l.survival) (l.i + 1) half l.initial.table l.table
