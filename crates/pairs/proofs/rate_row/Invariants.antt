-- `rate_row` rates one pair after the other, each in the table that the one before has left. Assumes nothing.
use mathlib.Core.List.{[]}
use Rattle.rules.specs.Asked.{asked_with, size_of}
use Rattle.places.specs.Cells.{Kept}
use Rattle.spares.proofs.Rating.{clear}
use Rattle.pairs.specs.Pairs.{low_with_both, high_with_both}
use Rattle.pairs.specs.Tried.{Tried}
use Rattle.pairs.proofs.rate_row.Given as goal

abbrev pub invariant-loop-j : goal.invariant-loop-j
invariant-loop-j l =
    let q = asked_with l.question l.lists in
    Kept clear l.working × Tried (low_with_both q l.p) (high_with_both q l.p) (size_of q) l.first l.j l.best
