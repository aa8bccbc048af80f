-- `trim` stores how many are left. Assumes nothing.
use native.Mathlib.Omega.{arith}
use Rattle.windows.proofs.Stores.{stored}
use Rattle.windows.proofs.groups.trim.Goals as goal

pub bounds-table-at : goal.bounds-table-at
bounds-table-at c = omega (arith, c.requires.low, c.requires.room)

pub returns : goal.returns
returns c =
    let s = stored c.args.table.now c.args.at c.below.result (omega (arith, c.requires.low)) c.requires.room in
    record { cut = rw s.here c.below.ensures; other = s.other; kept = s.kept }
