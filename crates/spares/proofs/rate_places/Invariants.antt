-- `rate_places` rates one place after the other, each in the table that the one before has left. Assumes nothing.
use mathlib.Core.List.{[]}
use Rattle.rules.specs.Asked.{asked_with}
use Rattle.places.specs.Cells.{Kept}
use Rattle.spares.specs.Places.{Rated}
use Rattle.spares.proofs.Rating.{clear}
use Rattle.spares.proofs.rate_places.Given as goal

abbrev pub invariant-loop-i : goal.invariant-loop-i
invariant-loop-i l =
    Kept clear l.working × Rated (asked_with l.question l.lists) l.p l.i l.low l.high
