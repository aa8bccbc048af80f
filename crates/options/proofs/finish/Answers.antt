-- `finish` meets its contract, test by test. Assumes nothing.
use mathlib.Core.Path.{sym, ◌∙◌}
use borrow.Author.Tests.{eq-eqb, ne_eqb}
use Rattle.options.proofs.Heard.{no-work, some-work}
use Rattle.options.proofs.finish.Goals as goal

pub returns-then-ne : goal.returns-then-ne
returns-then-ne c = simp (no-work _ (sym c.ne.ensures ∙ c.if-ne.true))

pub returns-then-asked-eq0 : goal.returns-then-asked-eq0
returns-then-asked-eq0 c = simp (some-work _ (sym c.ne.ensures ∙ c.if-ne.false), eq-eqb _ _ c.if-asked-eq0.true)

pub returns : goal.returns
returns c = rw (some-work _ (sym c.ne.ensures ∙ c.if-ne.false), ne_eqb _ _ c.if-asked-eq0.false) c.decide.ensures
