-- `rate_row` rates one pair after the other, each in the table that the one before has left. Assumes nothing.
use mathlib.Core.Path.{◌≡◌, refl, subst, sym}
use mathlib.Core.List.{[]}
use Prim.Native.Nat.{◌+◌, ◌≤◌, ◌<◌}
use native.Mathlib.Nat.{mul-le-mul}
use native.Mathlib.Omega.{arith}
use Rattle.rules.specs.Asked.{Asked, asked_with, size_of}
use Rattle.places.proofs.Cells.{kept_trans}
use Rattle.spares.proofs.Rating.{inside, swappable}
use Rattle.pairs.specs.Pairs.{low_with_both, high_with_both}
use Rattle.pairs.specs.Tried.{Tried}
use Rattle.pairs.proofs.Trying.{pairs-few, row-begins, one-pair, row_ends}
use Rattle.pairs.proofs.rate_row.Goals as goal
use Rattle.pairs.proofs.rate_row.Goals.{In-loop-j, Start}

abbrev asked : Start → Asked
asked c = asked_with c.args.question c.args.lists.now

-- the stretch, and the row's place in it
stretch-in : (c : Start) → (1 ≤ (asked c).a) × ((asked c).a ≤ (asked c).b) × ((asked c).b ≤ 64) × (c.args.first < size_of (asked c))
stretch-in c = let h = inside (asked c) c.args.p c.requires.accepted in (h.0, h.1, omega arith, c.requires.place)

pub overflow_sub-size : goal.overflow_sub-size
overflow_sub-size c = omega (arith, stretch-in ((goal.at.overflow_sub-size c).Start))

pub overflow_add-size : goal.overflow_add-size
overflow_add-size c = omega (arith, stretch-in ((goal.at.overflow_add-size c).Start))

pub overflow_step-j : goal.overflow_step-j
overflow_step-j c = omega (arith, stretch-in ((goal.at.overflow_step-j c).Start))

pub loop-j-init : goal.loop-j-init
loop-j-init c = (record { long = refl; rest = refl }, row-begins c.requires.tried)

-- a turn's second place is one of the stretch
in_row : (c : In-loop-j) → let q = asked_with c.args.question c.args.lists.now in
    c.loop-j.j < size_of q
in_row c =
    let q = asked_with c.args.question c.args.lists.now in
    let h = inside q c.args.p c.requires.accepted in
    omega (arith, c.loop-j-test.true, h.0, h.1)

pub rate-ends-requires : goal.rate-ends-requires
rate-ends-requires c =
    swappable (asked ((goal.at.rate-ends-requires c).Start)) c.args.p c.requires.accepted c.args.first c.loop-j.j c.requires.place (in_row ((goal.at.rate-ends-requires c).In-loop-j)) c.loop-j.working c.loop-j.invariant.0

pub with_pair-best-requires : goal.with_pair-best-requires
with_pair-best-requires c =
    let h = stretch-in ((goal.at.with_pair-best-requires c).Start) in
    let few : c.args.first ≤ 63 = omega arith in
    let size : size_of (asked ((goal.at.with_pair-best-requires c).Start)) ≤ 64 = omega arith in
    omega (arith, mul-le-mul few size, c.loop-j.invariant.1.count, pairs-few (size_of (asked ((goal.at.with_pair-best-requires c).Start))) c.args.first, in_row ((goal.at.with_pair-best-requires c).In-loop-j))

pub loop-j-preserved : goal.loop-j-preserved
loop-j-preserved c =
    let next = one-pair (omega (arith, c.loop-j.auto.j)) (in_row ((goal.at.loop-j-preserved c).In-loop-j)) c.loop-j.invariant.1 c.rate-ends.ensures.low c.rate-ends.ensures.high in
    let q = asked ((goal.at.loop-j-preserved c).Start) in (
      kept_trans c.loop-j.invariant.0 c.rate-ends.ensures.kept,
      subst (λ b. Tried (low_with_both q c.args.p) (high_with_both q c.args.p) (size_of q) c.args.first (c.loop-j.j + 1) b) (sym c.with_pair-best.ensures) next,
    )

pub returns : goal.returns
returns c =
    let all : c.loop-j.j ≡ size_of (asked ((goal.at.returns c).Start)) = omega (arith, c.loop-j-test.false, c.loop-j.auto.j-end, stretch-in ((goal.at.returns c).Start)) in
    row_ends c.requires.place (rw all at c.loop-j.invariant.1)
