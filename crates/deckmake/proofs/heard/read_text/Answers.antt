-- `heard::read_text` meets its contract: what was fed is held, whatever each read brings. Assumes nothing.
use mathlib.Core.Path.{refl, sym}
use Prim.Native.Nat.{ℕ}
use native.Mathlib.Omega.{arith}
use lib.ListN.{length-replicate}
use lib.Seq.{length-take-le}
use Rattle.deckmake.proofs.heard.read_text.Goals as goal

pub loop-init : goal.loop-init
loop-init c =
    record { few = omega (arith, c.start-feeding.ensures.none); sane = c.start-feeding.ensures.sane c.args.out.now c.requires.1; room = length-replicate {A = ℕ} 65536 0; line = refl; out = refl }

pub returns-then-filled-eq0 : goal.returns-then-filled-eq0
returns-then-filled-eq0 c =
    (c.loop.invariant.sane, omega (arith, c.loop.invariant.few))

pub slice_bounds-piece-end : goal.slice_bounds-piece-end
slice_bounds-piece-end c =
    c.in-Filled.ensures

pub slice_bounds-feed-end : goal.slice_bounds-feed-end
slice_bounds-feed-end c = sym (length-take-le _ _ c.in-Filled.ensures)

pub feed-feeding-requires : goal.feed-feeding-requires
feed-feeding-requires c =
    let full = c.in-Filled.ensures in
    let size = (sym (length-take-le _ _ c.in-Filled.ensures)) in
    record { sane = (c.loop.invariant.sane, omega (arith, c.loop.invariant.line, c.requires.0)); piece_bound = omega (arith, c.loop.invariant.few, c.loop.invariant.room, size, full, c.read_some.auto) }

pub loop-preserved : goal.loop-preserved
loop-preserved c =
    let full = c.in-Filled.ensures in
    let size = (sym (length-take-le _ _ c.in-Filled.ensures)) in
    record {
      few = omega (arith, c.feed-feeding.ensures.few, c.loop.invariant.few, c.loop.invariant.room, size, full, c.read_some.auto);
      sane = c.feed-feeding.ensures.sane;
      room = omega (arith, c.loop.invariant.room, c.read_some.auto);
      line = omega (arith, c.loop.invariant.line, c.feed-feeding.auto);
      out = omega (arith, c.loop.invariant.out, c.feed-feeding.auto);
    }

pub returns-after-loop : goal.returns-after-loop
returns-after-loop c =
    (c.loop.invariant.sane, omega (arith, c.loop.invariant.few))

pub returns-in_default : goal.returns-in_default
returns-in_default c =
    (c.loop.invariant.sane, omega (arith, c.loop.invariant.few))
