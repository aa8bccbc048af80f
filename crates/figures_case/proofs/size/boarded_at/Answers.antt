-- `size::boarded_at` meets its contract: each size was tested on the way to `fits`. Assumes nothing.
use mathlib.Core.Path.{refl, sym, ◌∙◌}
use mathlib.Core.Bool.{true≢false}
use Rattle.figures_case.proofs.size.boarded_at.Goals as goal

pub returns-then-p : goal.returns-then-p
returns-then-p c = λ e. absurd (true≢false (sym e ∙ c.cut_short.ensures))

pub returns-then-count : goal.returns-then-count
returns-then-count c = λ e. absurd (true≢false (sym e ∙ c.cut_short-then-count.ensures))

pub returns : goal.returns
returns c =
    λ e. record {
      fans = c.requires.few;
      weights = c.requires.light;
      more = c.requires.paired;
      boards = c.if-p.false;
      g = c.if-count.false;
      room = c.requires.celled;
      long = refl;
      ends = c.fits-whole.ensures e;
    }
