-- `pascal::ways` meets its contract: the table that it is lent passes the test of Pascal's rule, so each entry is the count; and no state has more failed than there are components. Assumes nothing.
use mathlib.Core.Path.{sym}
use mathlib.Core.Bool.{true}
use Prim.Native.Nat.{◌+◌, ◌*◌, ◌/◌, ◌<◌}
use native.Mathlib.Omega.{arith}
use Rattle.rules.proofs.Words.{count-above}
use Rattle.pascal.proofs.Folded.{row_small, fold-front, folded-ways}
use Rattle.pascal.proofs.ways.Goals as goal
use Rattle.pascal.proofs.ways.Goals.{After-fold}

pub overflow_mul-result : goal.overflow_mul-result
overflow_mul-result c = omega (arith, row_small c.requires.0)

-- where the entry stands
place-small : (c : After-fold) → (c.args.n + 1) * (c.args.n + 1) / 4 + c.fold.result < 1089
place-small c =
    omega (arith, row_small c.requires.0, c.fold.ensures, fold-front c.args.n c.args.j c.if-j-n.true)

pub overflow_add-result-then-j-n-2 : goal.overflow_add-result-then-j-n-2
overflow_add-result-then-j-n-2 c = omega (arith, place-small ((goal.at.overflow_add-result-then-j-n-2 c).After-fold))

pub offset_bounds-table-n : goal.offset_bounds-table-n
offset_bounds-table-n c = omega (arith, place-small ((goal.at.offset_bounds-table-n c).After-fold))

pub bounds-table-n : goal.bounds-table-n
bounds-table-n c = omega (arith, place-small ((goal.at.bounds-table-n c).After-fold))

pub returns-then-j-n : goal.returns-then-j-n
returns-then-j-n c =
    rw c.fold.ensures (folded-ways c.args.table.now c.requires.1 c.args.n c.args.j c.requires.0 c.if-j-n.true)

pub returns-else-j-n : goal.returns-else-j-n
returns-else-j-n c = sym (count-above (λ w. true) c.args.n c.args.j (omega arith))
