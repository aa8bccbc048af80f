-- `verdict::pairs::judge_pairs` meets its contract: some pair has a failing window exactly if the lowest start of any is on the line. Assumes nothing.
use native.Mathlib.Omega.{arith}
use Rattle.rules.specs.Pairs.{first_lacking}
use Rattle.rules.proofs.Lowest.{fails-from}
use Rattle.verdict.proofs.Placed.{placed, nowhere}
use Rattle.verdict.proofs.pairs.judge_pairs.Goals as goal

pub first_lacking-a-requires : goal.first_lacking-a-requires
first_lacking-a-requires c = c.requires

pub overflow_add-result : goal.overflow_add-result
overflow_add-result c = omega arith

pub returns-then-a-n : goal.returns-then-a-n
unfolding first_lacking
returns-then-a-n c =
    rw (fails-from c.args.n c.args.w _ c.requires.pairs.range) (placed _ _ _ c.first_lacking-a.ensures c.if-a-n.true)

pub returns : goal.returns
unfolding first_lacking
returns c =
    rw (fails-from c.args.n c.args.w _ c.requires.pairs.range) (nowhere _ _ _ c.first_lacking-a.ensures c.if-a-n.false)
