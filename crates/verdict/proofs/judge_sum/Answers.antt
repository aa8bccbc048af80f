-- `verdict::judge_sum` meets its contract: a test and its two answers. Assumes nothing.
use Rattle.rules.specs.Answer.{judgment}
use Rattle.verdict.proofs.judge_sum.Goals as goal

pub returns-then-failing : goal.returns-then-failing
unfolding judgment
returns-then-failing c = rw c.if-failing.true

pub returns : goal.returns
unfolding judgment
returns c = rw c.if-failing.false
