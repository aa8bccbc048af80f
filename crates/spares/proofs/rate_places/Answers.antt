-- `rate_places` rates one place after the other, each in the table that the one before has left. Assumes nothing.
use borrow.Author.Rules.{rules}
use mathlib.Core.Path.{◌≡◌, refl}
use mathlib.Core.List.{[]}
use Prim.Native.Nat.{◌≤◌, ◌<◌}
use native.Mathlib.Omega.{arith}
use Rattle.rules.specs.Asked.{Asked, asked_with, size_of}
use Rattle.places.proofs.Cells.{kept_trans}
use Rattle.spares.proofs.Rating.{inside, swappable, place-within, no_place, one_place}
use Rattle.spares.proofs.rate_places.Goals as goal
use Rattle.spares.proofs.rate_places.Goals.{Start}

abbrev asked : Start → Asked
asked c = asked_with c.args.question c.args.lists.now

stretch-in : (c : Start) → (1 ≤ (asked c).a) × ((asked c).a ≤ (asked c).b) × ((asked c).b ≤ 64)
stretch-in c = let h = inside (asked c) c.args.p c.requires in (h.0, h.1, omega arith)

pub overflow_sub-size : goal.overflow_sub-size
overflow_sub-size c = omega (arith, stretch-in ((goal.at.overflow_sub-size c).Start))

pub overflow_add-size : goal.overflow_add-size
overflow_add-size c = omega (arith, stretch-in ((goal.at.overflow_add-size c).Start))

pub loop-i-init : goal.loop-i-init
loop-i-init c = (record { long = refl; rest = refl }, no_place (asked ((goal.at.loop-i-init c).Start)) c.args.p)

pub overflow_add-fan : goal.overflow_add-fan
overflow_add-fan c = omega (arith, stretch-in ((goal.at.overflow_add-fan c).Start))

pub rate-ends-requires : goal.rate-ends-requires
rate-ends-requires c =
    let more : c.loop-i.i < size_of (asked ((goal.at.rate-ends-requires c).Start)) = omega (arith, c.loop-i-test.true, stretch-in ((goal.at.rate-ends-requires c).Start)) in
    swappable (asked ((goal.at.rate-ends-requires c).Start)) c.args.p c.requires c.loop-i.i c.loop-i.i more more c.loop-i.working c.loop-i.invariant.0

pub offset_bounds-low-i : goal.offset_bounds-low-i
offset_bounds-low-i c = omega (arith, c.loop-i-test.true, stretch-in ((goal.at.offset_bounds-low-i c).Start))

pub bounds-low-i : goal.bounds-low-i
bounds-low-i c = omega (arith, c.loop-i-test.true, stretch-in ((goal.at.bounds-low-i c).Start))

pub offset_bounds-high-i : goal.offset_bounds-high-i
offset_bounds-high-i c = omega (arith, c.loop-i-test.true, stretch-in ((goal.at.offset_bounds-high-i c).Start))

pub bounds-high-i : goal.bounds-high-i
bounds-high-i c = omega (arith, c.loop-i-test.true, stretch-in ((goal.at.bounds-high-i c).Start))

pub loop-i-preserved : goal.loop-i-preserved
loop-i-preserved c =
    let more : c.loop-i.i < size_of (asked ((goal.at.loop-i-preserved c).Start)) = omega (arith, c.loop-i-test.true, stretch-in ((goal.at.loop-i-preserved c).Start)) in (
      kept_trans c.loop-i.invariant.0 c.rate-ends.ensures.kept,
      one_place c.loop-i.invariant.1 (omega (arith, more, stretch-in ((goal.at.loop-i-preserved c).Start))) c.rate-ends.ensures (place-within (asked ((goal.at.loop-i-preserved c).Start)) c.args.p c.requires c.loop-i.i more c.rate-ends.ensures),
    )

pub returns : goal.returns
returns c =
    let all : c.loop-i.i ≡ size_of (asked ((goal.at.returns c).Start)) = omega (arith, c.loop-i-test.false, stretch-in ((goal.at.returns c).Start)) in
    rw all at c.loop-i.invariant.1
