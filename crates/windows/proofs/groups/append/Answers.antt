-- `append` stores the pattern, then the new count. Assumes nothing.
use native.Mathlib.Omega.{arith}
use lib.ListN.{length-set}
use Prim.Native.Nat.{◌+◌}
use Rattle.windows.specs.Groups.{count_at}
use Rattle.windows.proofs.Stores.{two}
use Rattle.windows.proofs.groups.append.Goals as goal

pub bounds-table-at-3 : goal.bounds-table-at-3
bounds-table-at-3 c = simp length-set (omega (arith, c.requires.low, c.requires.room))

pub returns : goal.returns
returns c =
    let s = two c.args.table.now (c.args.at + 1 + count_at c.args.table.now c.args.at) c.args.x c.args.at _ c.requires.low (omega (arith, c.requires.low)) (λ e. omega arith) c.requires.room in
    record { count = s.second; here = s.first; other = λ k h g. s.other k g h; kept = s.kept }
