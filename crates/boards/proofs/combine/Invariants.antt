-- `combine` meets its contract: what stands for each set of the boards up to b is the combination of those above. Assumes nothing.
use Rattle.units.specs.Step.{whole}
use Rattle.boards.proofs.Working.{Folding}
use Rattle.boards.proofs.combine.Given as goal

abbrev pub invariant-loop-b : goal.invariant-loop-b
invariant-loop-b l = Folding (whole l.decimal) l.switchboards l.initial.low l.initial.high l.low l.high l.b
