-- `line` fills the memory with no run and no lead, and reads it with all components left. Assumes nothing.
use Rattle.runs.proofs.Whole.{filled_at, line-is}
use Rattle.runs.proofs.line.Goals as goal

pub returns : goal.returns
returns c =
    record { figure = line-is c.requires (filled_at (rw c.start-free.ensures at c.fill.ensures) (rw c.place.ensures at c.read.ensures)); kept = c.fill.ensures.kept }
