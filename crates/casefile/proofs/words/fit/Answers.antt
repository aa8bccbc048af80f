-- `words::fit` meets its contract: every word passed is below the limit. Assumes nothing.
use Rattle.std.proofs.Common.{refl, arith, below_more}
use mathlib.Core.Bool.{false≢true}
use Rattle.casefile.proofs.words.fit.Goals as goal

pub loop-k-init : goal.loop-k-init
loop-k-init c = λ j l. absurd (omega arith)

pub returns-then-limit-word : goal.returns-then-limit-word
returns-then-limit-word c =
    (λ e. absurd (false≢true e), λ h. absurd (omega (arith, h c.loop-k.k c.loop-k-test.true)))

pub loop-k-preserved : goal.loop-k-preserved
loop-k-preserved c = below_more _ _ c.loop-k.invariant (rw c.word.ensures at c.if-limit-word.false)

pub returns : goal.returns
returns c = (λ e j m. c.loop-k.invariant j (omega arith), λ h. refl)
