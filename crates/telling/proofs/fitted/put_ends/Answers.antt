-- `fitted::put_ends` meets its contract: a pair is no longer than its room. Assumes nothing.
use Rattle.text.specs.Decimal.{text}
use native.Mathlib.Omega.{arith}
use Rattle.text.proofs.Signed.{held}
use Rattle.text.proofs.Adding.{signed-pair-reach}
use borrow.Author.Rules.{rules}
use Rattle.telling.proofs.fitted.put_ends.Goals as goal

pub overflow_sub-out : goal.overflow_sub-out
overflow_sub-out c = search rules

pub returns-then-out-at-lt-ROOM : goal.returns-then-out-at-lt-ROOM
returns-then-out-at-lt-ROOM c = search rules

pub put_signed_pair-requires : goal.put_signed_pair-requires
put_signed_pair-requires c = search rules

pub shape_of-out : goal.shape_of-out
shape_of-out c = search rules

pub returns : goal.returns
returns c =
    omega (arith, signed-pair-reach (text " lower ") (held c.args.lower) (text " upper ") (held c.args.upper) c.put_signed_pair.ensures)
