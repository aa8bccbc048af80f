-- `fitted::put_percents` meets its contract: a range in percent is no longer than its room. Assumes nothing.
use Rattle.units.specs.Step.{whole}
use native.Mathlib.Omega.{arith}
use Rattle.percent.proofs.Digits.{range-short}
use borrow.Author.Rules.{rules}
use Rattle.telling.proofs.fitted.put_percents.Goals as goal

pub overflow_sub-out : goal.overflow_sub-out
overflow_sub-out c = search rules

pub returns-then-out-at-lt-ROOM : goal.returns-then-out-at-lt-ROOM
returns-then-out-at-lt-ROOM c = search rules

pub put_range-requires : goal.put_range-requires
put_range-requires c = search rules

pub shape_of-out : goal.shape_of-out
shape_of-out c = search rules

pub returns : goal.returns
returns c =
    omega (arith, c.put_range.ensures.ends, range-short (whole c.args.decimal) c.args.low c.args.high)
