-- `changes::changed` meets its contract: a turn counts one place more. Assumes nothing.
use mathlib.Core.Path.{◌≡◌}
use Rattle.rules.specs.Below.{held}
use Rattle.rules.specs.Mending.{differs}
use Rattle.mend.proofs.changes.changed.Given as goal

abbrev pub invariant-loop-i : goal.invariant-loop-i
invariant-loop-i l = l.count ≡ held (differs l.old l.new) l.i
