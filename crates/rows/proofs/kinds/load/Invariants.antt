-- `load` adds one carry more a turn. Assumes nothing.
use mathlib.Core.Path.{◌≡◌}
use Rattle.rows.specs.Kinds.{load_of}
use Rattle.rows.proofs.kinds.load.Given as goal

abbrev pub invariant-loop-i : goal.invariant-loop-i
invariant-loop-i l = l.sum ≡ load_of l.rule l.weights l.i
