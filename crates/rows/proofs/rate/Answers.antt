-- `rate` makes the level with no components left and takes it up a component at a time; with all left, memory 0 has the figure. Assumes nothing.
use mathlib.Core.Path.{refl}
use native.Mathlib.Omega.{arith}
use lib.ListN.{length}
use Rattle.places.proofs.Cells.{kept-none, kept_trans, room-kept, side-near}
use Rattle.rows.proofs.Early.{load-le, early-is}
use Rattle.rows.proofs.Levels.{level-none, level-read}
use Rattle.rows.proofs.rate.Goals as goal

pub start-requires : goal.start-requires
start-requires c =
    (record { low = omega (arith, (early-is c.requires).most); room = c.requires.list.room }, c.limit-limit.ensures)

pub clear-requires : goal.clear-requires
clear-requires c =
    record {
      low = omega (arith, c.gap-gap.ensures, c.limit-limit.ensures, (early-is c.requires).most);
      room = room-kept c.start.ensures.kept c.requires.list.room;
    }

pub overflow_add-limit : goal.overflow_add-limit
overflow_add-limit c =
    omega (arith, c.limit-limit.ensures, (early-is c.requires).most)

pub clear-requires-2 : goal.clear-requires-2
clear-requires-2 c =
    record {
      low = omega (arith, c.gap-gap.ensures, c.limit-limit.ensures, (early-is c.requires).most);
      room = room-kept c.clear.ensures.kept (room-kept c.start.ensures.kept c.requires.list.room);
    }

pub overflow_add-s : goal.overflow_add-s
overflow_add-s c =
    omega (arith, c.load.ensures, load-le c.requires.accepted (length c.args.survival.now), c.requires.accepted.size_high)

pub loop-init : goal.loop-init
loop-init c =
    let row = rw c.limit-limit.ensures at c.start.ensures in
    let first = rw (c.gap-gap.ensures, c.limit-limit.ensures) at c.clear.ensures in
    let second = rw (c.gap-gap.ensures, c.limit-limit.ensures) at c.clear-2.ensures in
    (refl, rw c.load.ensures (level-none c.requires row first second), kept-none)

pub turn-s-requires : goal.turn-s-requires
turn-s-requires c = (c.loop.invariant.1, omega arith)

pub loop-preserved : goal.loop-preserved
loop-preserved c =
    (omega (arith, c.turn-s.ensures.is), c.turn-s.ensures.level, kept_trans c.loop.invariant.2 c.turn-s.ensures.kept)

pub read-requires : goal.read-requires
read-requires c =
    record { low = omega (arith, side-near c.loop.invariant.1.side); room = c.loop.invariant.1.asked.list.room }

pub shape_of-table : goal.shape_of-table
shape_of-table c =
    omega (arith, c.start.ensures.kept.long, c.clear.ensures.kept.long, c.loop.invariant.2.long)

pub returns : goal.returns
returns c =
    let first = kept_trans c.start.ensures.kept c.clear.ensures.kept in
    let kept = kept_trans first (kept_trans c.clear-2.ensures.kept c.loop.invariant.2) in
    record { figure = level-read c.loop.invariant.1 (omega (arith, c.loop.invariant.1.some)) c.read.ensures; kept = kept }
