-- `verdict_cases::run` meets its contract: the next case stands within the file, and the lines so far within the buffer. Assumes nothing.
use Rattle.casefile.specs.Cases.{Running}
use Rattle.verdict_cases.proofs.run.Given as goal

abbrev pub invariant-loop : goal.invariant-loop
invariant-loop l =
    Running l.bytes l.initial.out l.at l.out l.end
