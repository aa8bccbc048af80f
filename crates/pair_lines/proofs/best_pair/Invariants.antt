-- `best_pair` tries one row of pairs after the other. Assumes nothing.
use Rattle.rules.specs.Asked.{asked_with}
use Rattle.pairs.specs.Tried.{TriedBelow}
use Rattle.pair_lines.proofs.best_pair.Given as goal

abbrev pub invariant-loop-i : goal.invariant-loop-i
invariant-loop-i l =
    TriedBelow (asked_with l.question l.lists) l.two.p l.i l.best
