-- `fitted::put_stretch` meets its contract: a stretch in words is no longer than its room. Assumes nothing.
use native.Mathlib.Omega.{arith}
use Rattle.wording.proofs.Lengths.{stretch-short}
use borrow.Author.Rules.{rules}
use Rattle.telling.proofs.fitted.put_stretch.Goals as goal

pub overflow_sub-out : goal.overflow_sub-out
overflow_sub-out c = search rules

pub returns-then-out-at-lt-ROOM : goal.returns-then-out-at-lt-ROOM
returns-then-out-at-lt-ROOM c = search rules

pub put_stretch-requires : goal.put_stretch-requires
put_stretch-requires c = search rules

pub shape_of-out : goal.shape_of-out
shape_of-out c = search rules

pub returns : goal.returns
returns c =
    omega (arith, c.put_stretch.ensures.ends, stretch-short c.args.fans c.args.a c.args.b)
