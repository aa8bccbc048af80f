-- `figures_cases::run_case` meets its contract: the front of the cells is lent as the case's table. Assumes nothing.
use Rattle.casefile.proofs.Lent.{lent}
use borrow.Author.Rules.{rules}
use Rattle.figures_cases.proofs.run_case.Goals as goal

pub slice_bounds-run_over-end : goal.slice_bounds-run_over-end
slice_bounds-run_over-end c = lent _ _ ((search rules))
