-- `is_option` meets its contract, test by test. Assumes nothing.
use borrow.Author.Tests.{le-leb, lt-leb, eq-eqb, ne_eqb}
use Rattle.options.proofs.is_option.Goals as goal

pub returns-then-ended-ne0 : goal.returns-then-ended-ne0
returns-then-ended-ne0 c = simp (ne_eqb _ _ c.if-ended-ne0.true)

pub returns-then-word-lt2 : goal.returns-then-word-lt2
returns-then-word-lt2 c = simp (eq-eqb _ _ c.if-ended-ne0.false, lt-leb _ _ c.if-word-lt2.true)

pub returns : goal.returns
returns c = simp (eq-eqb _ _ c.if-ended-ne0.false, le-leb _ _ c.if-word-lt2.false)
