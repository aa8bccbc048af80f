-- `next` makes a row out of the one below, in a sum that slides along. Assumes nothing.
use mathlib.Core.Path.{◌≡◌, refl}
use Prim.Native.Nat.{suc, ◌+◌, ◌*◌}
use native.Mathlib.Omega.{arith}
use Rattle.bins.specs.From.{shift}
use Rattle.bins.proofs.Cells.{stored-none, stored-up}
use Rattle.bins.proofs.Filling.{slid, rows_more}
use Rattle.places.specs.Map.{bin_row}
use Rattle.bins.proofs.next.Goals as goal

pub loop-j-init : goal.loop-j-init
unfolding shift
loop-j-init c = (refl, stored-none (omega arith))

pub slide-held-requires : goal.slide-held-requires
slide-held-requires c =
    let next = slid _ c.requires.0 c.requires.2 refl c.loop-j.invariant.1 (omega arith) c.loop-j.invariant.0 in
    record { long = omega (arith, c.loop-j.invariant.1.rest.long, c.requires.0.long, c.requires.0.most); fits = next.1; holds = omega (arith, next.0) }

pub loop-j-preserved : goal.loop-j-preserved
unfolding shift
loop-j-preserved c =
    let o : c.loop-j.j + 1 ≡ suc c.loop-j.j = omega arith in
    let next = (slid _ c.requires.0 c.requires.2 refl c.loop-j.invariant.1 (omega arith) c.loop-j.invariant.0).0 in (
      rw o (omega (arith, c.slide-held.ensures, next)),
      stored-up _ _ (omega arith) (omega arith) (omega (arith, c.loop-j.invariant.1.rest.long)) (omega (arith, c.slide-held.ensures, next)) c.loop-j.invariant.1,
    )

pub returns-2 : goal.returns-2
returns-2 c =
    let next = (slid _ c.requires.0 c.requires.2 refl c.loop-j.invariant.1 (omega arith) c.loop-j.invariant.0).0 in
    rows_more {count = c.loop-j.j + 1} {off = c.args.b * bin_row + bin_row} c.requires.0 c.requires.2
    (stored-up _ _ (omega arith) (omega arith) (omega (arith, c.loop-j.invariant.1.rest.long)) (omega (arith, c.slide-held.ensures, next)) c.loop-j.invariant.1)
    (omega arith) (omega arith) (omega arith) (omega arith)
