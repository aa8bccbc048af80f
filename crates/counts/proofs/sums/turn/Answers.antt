-- `turn` adds to each row the row below, from the highest on. Assumes nothing.
use mathlib.Core.Path.{◌≡◌}
use Prim.Native.Nat.{suc, ◌-◌}
use native.Mathlib.Omega.{arith}
use Rattle.counts.proofs.Adding.{turned-row}
use Rattle.counts.proofs.sums.turn.Goals as goal

pub loop-j-preserved : goal.loop-j-preserved
loop-j-preserved c =
    let e : c.loop-j.j ≡ suc (c.loop-j.j - 1) = omega arith in
    turned-row c.requires (rw e at c.loop-j.invariant) (omega arith) c.add.ensures
