-- `rate_sets` meets its contract: each set that was passed has its figures at its place, and the boards are combined over all of them. Assumes nothing.
use Rattle.rules.specs.State.{beside_of}
use Rattle.units.specs.Step.{whole}
use Rattle.boards.proofs.Working.{Sets}
use Rattle.boards.proofs.rate_sets.Given as goal

abbrev pub invariant-loop-out : goal.invariant-loop-out
invariant-loop-out l =
    Sets (whole l.decimal) l.rule l.survival (beside_of l.rule l.weights l.more) l.boards l.initial.table l.table l.low l.high l.out
