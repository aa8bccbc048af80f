-- `counts_cases::run_case` meets its contract: the front of each table is lent, as long as the case asks. Assumes nothing.
use borrow.Author.Rules.{rules}
use Rattle.casefile.proofs.Lent.{lent}
use Rattle.counts_cases.proofs.run_case.Goals as goal

pub slice_bounds-run_in-end : goal.slice_bounds-run_in-end
slice_bounds-run_in-end c = lent _ _ ((search rules))

pub slice_bounds-run_in-end-2 : goal.slice_bounds-run_in-end-2
slice_bounds-run_in-end-2 c = lent _ _ ((search rules))
