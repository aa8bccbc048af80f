-- `refusals::pairs::pair_out` meets its contract: the range's three tests, one after the other. Assumes nothing.
use mathlib.Core.Path.{sym, ◌∙◌}
use borrow.Author.Tests.{not-true, not-false, lt-leb, le-leb}
use Rattle.rules.specs.Below.{within}
use Rattle.rules.specs.Pairs.{longest_window}
use Rattle.rules.proofs.Tests.{not-leb}
use Rattle.refusals.proofs.pairs.pair_out.Goals as goal

pub returns-then-outside : goal.returns-then-outside
returns-then-outside c =
    rw (not-true (within 1 c.args.k c.args.r) (sym c.outside.ensures ∙ c.if-outside.true))

pub returns-then-r-gt-WINDOW : goal.returns-then-r-gt-WINDOW
returns-then-r-gt-WINDOW c =
    rw (not-false (within 1 c.args.k c.args.r) (sym c.outside.ensures ∙ c.if-outside.false), lt-leb c.args.r longest_window c.if-r-gt-WINDOW.true)

pub returns : goal.returns
returns c =
    rw (not-false (within 1 c.args.k c.args.r) (sym c.outside.ensures ∙ c.if-outside.false), le-leb c.args.r longest_window c.if-r-gt-WINDOW.false) (not-leb c.args.n c.args.r)
