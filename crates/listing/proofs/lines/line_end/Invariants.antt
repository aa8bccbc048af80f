-- `lines::line_end` meets its contract: what is passed is within one line. Assumes nothing.
use Rattle.grammar.specs.Stands.{part}
use Rattle.listing.specs.Lines.{OneLine}
use Rattle.listing.proofs.lines.line_end.Given as goal

abbrev pub invariant-loop-i : goal.invariant-loop-i
invariant-loop-i l = OneLine (part l.text l.at l.i)
