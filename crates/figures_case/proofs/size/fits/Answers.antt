-- `size::fits` meets its contract: where it answers true, the case ends within the file. Assumes nothing.
use mathlib.Core.Path.{sym}
use mathlib.Core.Bool.{true≢false}
use Rattle.figures_case.proofs.size.fits.Goals as goal

pub returns-then-whole-at : goal.returns-then-whole-at
returns-then-whole-at c = λ e. absurd (true≢false (sym e))

pub returns-then-not-fit : goal.returns-then-not-fit
returns-then-not-fit c = λ e. absurd (true≢false (sym e))

pub returns-then-not-fit-2 : goal.returns-then-not-fit-2
returns-then-not-fit-2 c = λ e. absurd (true≢false (sym e))

pub returns-then-not-fit-3 : goal.returns-then-not-fit-3
returns-then-not-fit-3 c = λ e. absurd (true≢false (sym e))
