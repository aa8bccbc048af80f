-- `read_lines` meets its contract: a turn reads one line that ends in the text. The measure is what is left. Assumes nothing.
use mathlib.Core.Path.{refl}
use Prim.Native.Nat.{◌+◌, ◌<◌}
use native.Mathlib.Omega.{arith}
use lib.ListN.{length, take}
use Rattle.listing.proofs.Ends.{whole-none, whole-on, lines-on, lines_end, last-goes-on, one_none, beyond}
use Rattle.listing.proofs.Reading.{steps-none, steps_on, steps_up}
use Rattle.listing.proofs.read_lines.Goals as goal

pub loop-at-init : goal.loop-at-init
loop-at-init c = (omega arith, c.table-table.ensures, whole-none, steps-none c.requires.0, refl)

pub slice_bounds-with_line-count : goal.slice_bounds-with_line-count
slice_bounds-with_line-count c =
    omega (arith, c.line_end-end.ensures.low)

pub with_line-next-requires : goal.with_line-next-requires
with_line-next-requires c =
    (c.loop-at.invariant.1, c.loop-at.invariant.3.sane, omega (arith, c.loop-at.invariant.3.few, c.requires.1, c.loop-at-test.true))

pub overflow_add-at : goal.overflow_add-at
overflow_add-at c =
    omega (arith, c.line_end-end.ensures.high, c.if-end-text.false, c.requires.1)

pub loop-at-smaller : goal.loop-at-smaller
loop-at-smaller c =
    omega (arith, c.line_end-end.ensures.low, c.line_end-end.ensures.high, c.if-end-text.false, c.loop-at-test.true)

pub loop-at-preserved : goal.loop-at-preserved
loop-at-preserved c =
    let more : c.line_end-end.result < length c.args.text.now = omega (arith, c.line_end-end.ensures.high, c.if-end-text.false) in (
      omega arith,
      c.loop-at.invariant.1,
      whole-on c.args.text.now c.loop-at.at c.loop-at.invariant.2 c.line_end-end.result c.line_end-end.ensures more,
      steps_on (take c.loop-at.at c.args.text.now) (take (c.line_end-end.result + 1) c.args.text.now) _ (omega (arith, c.line_end-end.ensures.low)) (lines-on c.args.text.now c.loop-at.at c.loop-at.invariant.2 c.line_end-end.result c.line_end-end.ensures more) c.loop-at.invariant.3 c.with_line-next.ensures,
      omega (arith, c.loop-at.invariant.4, c.with_line-next.auto),
    )

pub shape_of-out-after-loop-at : goal.shape_of-out-after-loop-at
shape_of-out-after-loop-at c = omega (arith, c.loop-at.invariant.4)

pub returns-after-loop-at : goal.returns-after-loop-at
returns-after-loop-at c =
    record { end = lines_end c.args.text.now c.loop-at.at c.loop-at.invariant.2 c.loop-at.invariant.0 (one_none (beyond c.loop-at.at c.args.text.now c.loop-at-test.false)); steps = steps_up c.loop-at.invariant.0 c.loop-at.invariant.3 }

pub shape_of-out-then-end-text : goal.shape_of-out-then-end-text
shape_of-out-then-end-text c = omega (arith, c.loop-at.invariant.4)

pub returns-then-end-text : goal.returns-then-end-text
returns-then-end-text c =
    record { end = last-goes-on c.args.text.now c.loop-at.at c.loop-at.invariant.2 (rw c.if-end-text.true at c.line_end-end.ensures); steps = steps_up c.loop-at.invariant.0 c.loop-at.invariant.3 }
