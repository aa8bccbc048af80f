-- `line::start_of` meets its contract, by its one test. Assumes nothing.
use Rattle.grammar.proofs.line.start_of.Goals as goal

pub returns-then-begun : goal.returns-then-begun
returns-then-begun c = rw c.if-begun.true

pub returns-else-begun : goal.returns-else-begun
returns-else-begun c = rw c.if-begun.false
