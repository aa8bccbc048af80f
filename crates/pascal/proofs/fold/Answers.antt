-- `fold` takes the test of `fold_of`. Assumes nothing.
use Prim.Native.Nat.{◌/◌}
use native.Mathlib.Omega.{arith}
use borrow.Author.Tests.{le-leb, lt-leb}
use Rattle.pascal.proofs.fold.Goals as goal

pub returns-then-j-middle : goal.returns-then-j-middle
returns-then-j-middle c = rw (le-leb c.args.j (c.args.n / 2) (omega arith))

pub returns : goal.returns
returns c = rw (lt-leb c.args.j (c.args.n / 2) (omega arith))
