-- `turn` leaves a level for a component of no carry, or climbs, one sum more a turn of its loop. The loop no longer has the rule, so its invariant
use Prim.Native.Nat.{suc, ◌-◌}
use Rattle.rules.specs.declared.Rule.{Rule}
use Rattle.units.specs.Step.{whole}
use Rattle.places.specs.Cells.{Written}
use Rattle.places.specs.Map.{half}
use Rattle.rows.specs.Level.{sums_value}
use Rattle.rows.proofs.Climbs.{Climb}
use Rattle.rows.proofs.row.turn.Given as goal

-- holds under every rule that the climb may be read under. Assumes nothing.
abbrev pub invariant-loop-m : goal.invariant-loop-m
invariant-loop-m l =
    (rule : Rule) → Climb (whole l.decimal) rule l.survival l.weights l.left l.from l.initial.table l.odds.p.0 l.odds.q.0 l.carry l.width
    → Written (sums_value (whole l.decimal) rule l.survival l.weights (suc l.left)) l.m (half - l.from) l.initial.table l.table
