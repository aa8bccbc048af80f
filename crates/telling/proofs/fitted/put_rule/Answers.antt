-- `fitted::put_rule` meets its contract: a rule in words is no longer than its room. Assumes nothing.
use native.Mathlib.Omega.{arith}
use Rattle.wording.proofs.Lengths.{rule-short}
use borrow.Author.Rules.{rules}
use Rattle.telling.proofs.fitted.put_rule.Goals as goal

pub overflow_sub-out : goal.overflow_sub-out
overflow_sub-out c = search rules

pub returns-then-out-at-lt-ROOM : goal.returns-then-out-at-lt-ROOM
returns-then-out-at-lt-ROOM c = search rules

pub put_rule-requires : goal.put_rule-requires
put_rule-requires c = search rules

pub shape_of-out : goal.shape_of-out
shape_of-out c = search rules

pub returns : goal.returns
returns c =
    omega (arith, c.put_rule.ensures.ends, rule-short c.args.rule.kind c.args.rule.first c.args.rule.second)
