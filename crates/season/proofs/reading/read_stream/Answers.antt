-- `reading::read_stream` meets its contract: what was fed leaves a reading that can go on. Assumes nothing.
use mathlib.Core.Path.{sym}
use Prim.Native.Nat.{ℕ}
use native.Mathlib.Omega.{arith}
use lib.ListN.{length-replicate}
use lib.Seq.{length-take-le}
use Rattle.ending.specs.Ending.{longest}
use Rattle.season.proofs.reading.read_stream.Goals as goal

pub loop-init : goal.loop-init
loop-init c = record { sane = c.start-reading.ensures.sane; room = length-replicate {A = ℕ} longest 0; labelled = c.requires }

pub read_piece-more-requires : goal.read_piece-more-requires
read_piece-more-requires c =
    (c.loop.invariant.labelled, omega (arith, c.lacks-wanted.ensures.1, c.loop.invariant.room))

pub slice_bounds-piece-end : goal.slice_bounds-piece-end
slice_bounds-piece-end c =
    omega (arith, c.read_piece-more.ensures.front)

pub slice_bounds-feed-end : goal.slice_bounds-feed-end
slice_bounds-feed-end c = sym (length-take-le _ _ ((omega (arith, c.read_piece-more.ensures.front))))

pub loop-preserved : goal.loop-preserved
loop-preserved c =
    record { sane = c.feed-reading.ensures.sane; room = omega (arith, c.read_piece-more.auto, c.loop.invariant.room); labelled = c.read_piece-more.ensures.labelled }
