-- `fill` takes one component after the other, from none read to all. Assumes nothing.
use mathlib.Core.Path.{◌≡◌, ◌∙◌}
use native.Mathlib.Omega.{arith}
use lib.ListN.{length}
use Rattle.rules.specs.Refusal.{cells}
use Rattle.bins.proofs.Cells.{outside-none, outside-then, one-first}
use Rattle.counts.proofs.Adding.{total-drop, weighed-same, none_read, sums-turnable, sums-turned, turned-outside}
use Rattle.counts.proofs.sums.fill.Goals as goal

pub loop-i-init : goal.loop-i-init
loop-i-init c =
    (omega (arith, c.requires.light), none_read c.requires (one-first cells (omega arith) c.requires.long c.zero.ensures), outside-none)

pub turn-requires : goal.turn-requires
turn-requires c =
    let one = one-first cells (omega arith) c.requires.long c.zero.ensures in
    let next = total-drop c.loop-i.i c.args.weights.now c.loop-i-test.true in
    sums-turnable (weighed-same (c.loop-i.invariant.2.long ∙ one.rest.long) c.requires) c.loop-i.invariant.1 c.loop-i-test.true c.from-w.ensures c.within.ensures (omega (arith, c.loop-i.invariant.0, next))

pub loop-i-preserved : goal.loop-i-preserved
loop-i-preserved c =
    let one = one-first cells (omega arith) c.requires.long c.zero.ensures in
    let next = total-drop c.loop-i.i c.args.weights.now c.loop-i-test.true in
    let able = weighed-same (c.loop-i.invariant.2.long ∙ one.rest.long) c.requires in (
      omega (arith, c.loop-i.invariant.0, next, c.from-w.ensures),
      sums-turned able c.loop-i.invariant.1 c.loop-i-test.true c.from-w.ensures c.within.ensures (omega (arith, c.loop-i.invariant.0, next)) c.turn.ensures,
      outside-then c.loop-i.invariant.2 (turned-outside able c.loop-i.invariant.1 c.loop-i-test.true c.from-w.ensures c.within.ensures (omega (arith, c.loop-i.invariant.0, next)) c.turn.ensures),
    )

pub returns : goal.returns
returns c =
    let e : c.loop-i.i ≡ length c.args.weights.now = omega arith in
    let one = one-first cells (omega arith) c.requires.long c.zero.ensures in
    record { is = λ j m. (rw e at c.loop-i.invariant.1).is j _ m (omega arith); rest = outside-then one.rest c.loop-i.invariant.2 }
