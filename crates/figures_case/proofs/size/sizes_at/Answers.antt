-- `size::sizes_at` meets its contract: each size was tested on the way to `boarded_at`. Assumes nothing.
use mathlib.Core.Path.{sym, ◌∙◌}
use mathlib.Core.Bool.{true≢false}
use Rattle.figures_case.proofs.size.sizes_at.Goals as goal

pub returns-then-room : goal.returns-then-room
returns-then-room c = λ e. absurd (true≢false (sym e ∙ c.cut_short.ensures))

pub returns-then-n : goal.returns-then-n
returns-then-n c = λ e. absurd (true≢false (sym e ∙ c.cut_short-then-n.ensures))

pub returns-then-w : goal.returns-then-w
returns-then-w c = λ e. absurd (true≢false (sym e ∙ c.cut_short-then-w.ensures))

pub returns-then-m : goal.returns-then-m
returns-then-m c = λ e. absurd (true≢false (sym e ∙ c.cut_short-then-m.ensures))

pub returns : goal.returns
returns c = c.boarded_at.ensures
