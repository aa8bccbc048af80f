-- `rate` raises the first level one component a turn and reads the start. Assumes nothing.
use mathlib.Core.Path.{refl}
use native.Mathlib.Omega.{arith}
use Rattle.places.proofs.Cells.{kept-none, kept_trans}
use Rattle.windows.proofs.Asking.{windows}
use Rattle.windows.proofs.Whole.{most, filling, sortable, level-none, figure-place, figure-there}
use Rattle.windows.proofs.rate.Goals as goal

pub oldest-oldest-requires : goal.oldest-oldest-requires
oldest-oldest-requires c = windows c.requires

pub overflow_mul-oldest : goal.overflow_mul-oldest
overflow_mul-oldest c = omega (arith, most c.requires c.oldest-oldest.ensures)

pub start-requires : goal.start-requires
start-requires c =
    filling c.requires c.oldest-oldest.ensures

pub sort-requires : goal.sort-requires
sort-requires c =
    sortable c.requires c.oldest-oldest.ensures c.start.ensures.kept

pub loop-init : goal.loop-init
loop-init c =
    (level-none c.requires c.oldest-oldest.ensures c.start.ensures c.sort.ensures, kept-none, refl)

pub turn-s-requires : goal.turn-s-requires
turn-s-requires c = record { ps = _; level = c.loop.invariant.0; more = omega arith }

pub loop-preserved : goal.loop-preserved
loop-preserved c =
    let r = c.turn-s.ensures.raised _ c.loop.invariant.0 in
    (r.level, kept_trans c.loop.invariant.1 c.turn-s.ensures.kept, omega (arith, r.is, c.loop.invariant.2))

pub read-requires : goal.read-requires
read-requires c =
    figure-place c.requires c.loop.invariant.0

pub shape_of-table : goal.shape_of-table
shape_of-table c =
    (kept_trans (kept_trans c.start.ensures.kept c.sort.ensures.kept) c.loop.invariant.1).long

pub returns : goal.returns
returns c = record { figure = figure-there c.requires c.loop.invariant.0 (omega arith) c.read.ensures; kept = kept_trans (kept_trans c.start.ensures.kept c.sort.ensures.kept) c.loop.invariant.1 }
