-- `line::read_line` meets its contract: the words from where it stands, read from its place, make the line. The measure is what is left. Assumes nothing.
use mathlib.Core.Path.{sym, ap, ◌∙◌}
use Rattle.grammar.specs.Line.{read_line}
use Rattle.grammar.proofs.Whole.{start-few, goes-few, line-ends, line-stops, line-goes}
use native.Mathlib.Omega.{arith}
use Rattle.grammar.proofs.line.read_line.Goals as goal

pub loop-after-init : goal.loop-after-init
unfolding read_line
loop-after-init c = (omega arith, rw c.start_of-place.ensures (start-few c.args.begun), rw c.start_of-place.ensures)

pub next-span-requires : goal.next-span-requires
next-span-requires c = c.loop-after.invariant.0

pub slice_bounds-step-count : goal.slice_bounds-step-count
slice_bounds-step-count c = omega (arith, c.next-span.ensures.mid)

pub step-next-requires : goal.step-next-requires
step-next-requires c =
    (c.requires, c.loop-after.invariant.1)

pub returns-then-from-upto : goal.returns-then-from-upto
returns-then-from-upto c =
    let e = line-ends c.args.line.now c.args.version c.loop-after.place c.loop-after.set c.loop-after.at _ _ c.next-span.ensures _ c.loop-after.invariant.2 _ _ c.step-next.ensures.0 c.step-next.ensures.1 c.if-from-upto.true in record { low = c.next-span.ensures.mid; high = c.next-span.ensures.high; ended = sym (ap (λ x. x.ended) e); word = sym (ap (λ x. x.word) e); set = sym (ap (λ x. x.set) e) }

pub returns-then-not-goes_on : goal.returns-then-not-goes_on
returns-then-not-goes_on c =
    let e = line-stops c.args.line.now c.args.version c.loop-after.place c.loop-after.set c.loop-after.at _ _ c.next-span.ensures _ c.loop-after.invariant.2 _ _ c.step-next.ensures.0 c.step-next.ensures.1 (omega (arith, c.next-span.ensures.mid, c.if-from-upto.false)) (sym c.goes_on.ensures ∙ c.if-not-goes_on.true) in record { low = c.next-span.ensures.mid; high = c.next-span.ensures.high; ended = sym (ap (λ x. x.ended) e); word = sym (ap (λ x. x.word) e); set = sym (ap (λ x. x.set) e) }

pub loop-after-smaller : goal.loop-after-smaller
loop-after-smaller c =
    omega (arith, c.next-span.ensures.low, c.next-span.ensures.mid, c.next-span.ensures.high, c.if-from-upto.false)

pub loop-after-preserved : goal.loop-after-preserved
loop-after-preserved c =
    let g = sym c.goes_on.ensures ∙ c.if-not-goes_on.false in (c.next-span.ensures.high, goes-few _ g, line-goes c.args.line.now c.args.version c.loop-after.place c.loop-after.set c.loop-after.at _ _ c.next-span.ensures _ c.loop-after.invariant.2 _ _ c.step-next.ensures.0 c.step-next.ensures.1 (omega (arith, c.next-span.ensures.mid, c.if-from-upto.false)) g)
