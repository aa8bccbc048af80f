-- `with_spare` gives 4 where nothing before it applies. Assumes nothing.
use mathlib.Core.Path.{sym, ap, ◌∙◌}
use borrow.Author.Tests.{ne_eqb}
use Rattle.rules.specs.Refusal.{refusal_in}
use Rattle.rules.proofs.Numbers.{number-some}
use Rattle.gain.specs.Outcome.{with_spare}
use Rattle.gain.proofs.with_spare.Goals as goal

pub returns-then-not-above : goal.returns-then-not-above
returns-then-not-above c = simp (c.if-not-above.true)

pub returns-then-earlier : goal.returns-then-earlier
returns-then-earlier c =
    let early = rw c.number.ensures at (sym c.outside-earlier.ensures ∙ c.if-earlier.true) in
    rw c.in-Err.is (simp (c.if-not-above.false, ne_eqb _ _ (number-some c.in-Err.refused), early))

pub returns-else-earlier : goal.returns-else-earlier
returns-else-earlier c =
    let late = rw c.number.ensures at (sym c.outside-earlier.ensures ∙ c.if-earlier.false) in
    rw c.in-Err.is (simp (c.if-not-above.false, ne_eqb _ _ (number-some c.in-Err.refused), late))

pub returns-in_default : goal.returns-in_default
returns-in_default c = rw c.in_default.is (simp (c.if-not-above.false))
