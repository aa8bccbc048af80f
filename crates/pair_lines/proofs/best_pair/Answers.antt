-- `best_pair` tries one row of pairs after the other. Assumes nothing.
use mathlib.Core.Path.{◌≡◌}
use mathlib.Core.List.{[]}
use Prim.Native.Nat.{◌≤◌}
use native.Mathlib.Omega.{arith}
use Rattle.rules.specs.Asked.{Asked, asked_with, size_of}
use Rattle.spares.proofs.Rating.{inside}
use Rattle.pairs.proofs.Trying.{none_tried}
use Rattle.pair_lines.proofs.best_pair.Goals as goal
use Rattle.pair_lines.proofs.best_pair.Goals.{Start}

abbrev asked : Start → Asked
asked c = asked_with c.args.question c.args.lists.now

stretch-in : (c : Start) → (1 ≤ (asked c).a) × ((asked c).a ≤ (asked c).b) × ((asked c).b ≤ 64)
stretch-in c = let h = inside (asked c) c.args.two.p c.requires in (h.0, h.1, omega arith)

pub overflow_sub-size : goal.overflow_sub-size
overflow_sub-size c = omega (arith, stretch-in ((goal.at.overflow_sub-size c).Start))

pub overflow_add-size : goal.overflow_add-size
overflow_add-size c = omega (arith, stretch-in ((goal.at.overflow_add-size c).Start))

pub loop-i-init : goal.loop-i-init
loop-i-init c = none_tried c.none-best.ensures

pub show-requires : goal.show-requires
show-requires c = (omega (arith, c.loop-i-test.true), omega (arith, stretch-in ((goal.at.show-requires c).Start)))

pub rate_row-best-requires : goal.rate_row-best-requires
rate_row-best-requires c =
    record { accepted = c.requires; place = omega (arith, c.loop-i-test.true, stretch-in ((goal.at.rate_row-best-requires c).Start)); tried = c.loop-i.invariant }

pub loop-i-preserved : goal.loop-i-preserved
loop-i-preserved c = c.rate_row-best.ensures

pub returns : goal.returns
returns c =
    let s = (goal.at.returns c).Start in
    let all : c.loop-i.i ≡ size_of (asked s) = omega (arith, c.loop-i-test.false, c.loop-i.auto.i-end, stretch-in s) in
    rw all at c.loop-i.invariant
