-- `add` adds cells to cells behind them, which it does not read again. Assumes nothing.
use mathlib.Core.Path.{◌≡◌, refl}
use native.Mathlib.Omega.{arith}
use Rattle.bins.proofs.Cells.{stored-up}
use Rattle.counts.proofs.Adding.{add-cell}
use Rattle.counts.proofs.sums.add.Goals as goal

pub loop-s-preserved : goal.loop-s-preserved
loop-s-preserved c =
    rw c.raise.ensures
    (stored-up _ _ (omega arith) refl (omega (arith, c.requires.long, c.loop-s.invariant.rest.long)) (add-cell _ c.requires (omega arith) c.loop-s.invariant) c.loop-s.invariant)

pub returns : goal.returns
returns c =
    let e : c.loop-s.s ≡ c.args.count = omega arith in
    rw e at c.loop-s.invariant
