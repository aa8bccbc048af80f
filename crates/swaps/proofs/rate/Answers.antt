-- `rate` rates a copy of the stretch with both fans' numbers replaced: what is not refused is not refused so either, and nothing beside the stretch is read.
use borrow.Author.Rules.{rules}
use mathlib.Core.Path.{sym}
use Prim.Native.Nat.{◌≤◌}
use native.Mathlib.Omega.{arith}
use lib.ListN.{length-set}
use lib.Seq.{length-take-le}
use Rattle.rules.specs.Asked.{Asked, asked_with, length_of}
use Rattle.rules.specs.Refusal.{most}
use Rattle.swaps.proofs.Replaced.{placed, listed, within-most, written-accepted, written-worked}
use Rattle.swaps.proofs.rate.Goals as goal
use Rattle.swaps.proofs.rate.Goals.{Start}

-- Assumes nothing.
-- what is asked, and what is known of the fans' places and of the list's length
abbrev asked : Start → Asked
asked c =
    asked_with c.args.question c.args.lists.now

one : (c : Start) → let q = asked c in (1 ≤ q.a) × (q.a ≤ c.args.swap.first) × (c.args.swap.first ≤ q.b) × (q.b ≤ length_of q)
one c = placed _ _ c.requires.none c.args.swap.first c.requires.first

two : (c : Start) → let q = asked c in (1 ≤ q.a) × (q.a ≤ c.args.swap.second) × (c.args.swap.second ≤ q.b) × (q.b ≤ length_of q)
two c = placed _ _ c.requires.none c.args.swap.second c.requires.second

few : (c : Start) → length_of (asked c) ≤ most
few c = listed _ _ c.requires.none

pub overflow_sub-first : goal.overflow_sub-first
overflow_sub-first c = omega (arith, one ((goal.at.overflow_sub-first c).Start))

pub overflow_sub-second : goal.overflow_sub-second
overflow_sub-second c = omega (arith, two ((goal.at.overflow_sub-second c).Start))

pub overflow_cast-p : goal.overflow_cast-p
overflow_cast-p c = omega (arith, within-most (asked ((goal.at.overflow_cast-p c).Start)) c.requires.small)

pub overflow_sub-a : goal.overflow_sub-a
overflow_sub-a c = omega (arith, one ((goal.at.overflow_sub-a c).Start))

pub copied-numbers-requires : goal.copied-numbers-requires
copied-numbers-requires c =
    let h = one ((goal.at.copied-numbers-requires c).Start) in
    (omega arith, h.3, few ((goal.at.copied-numbers-requires c).Start))

pub offset_bounds-numbers-first : goal.offset_bounds-numbers-first
offset_bounds-numbers-first c = omega (arith, one ((goal.at.offset_bounds-numbers-first c).Start), few ((goal.at.offset_bounds-numbers-first c).Start))

pub bounds-numbers-first : goal.bounds-numbers-first
bounds-numbers-first c = omega (arith, one ((goal.at.bounds-numbers-first c).Start), few ((goal.at.bounds-numbers-first c).Start))

pub offset_bounds-numbers-second : goal.offset_bounds-numbers-second
offset_bounds-numbers-second c = omega (arith, two ((goal.at.offset_bounds-numbers-second c).Start), few ((goal.at.offset_bounds-numbers-second c).Start))

pub bounds-numbers-second : goal.bounds-numbers-second
bounds-numbers-second c = omega (arith, two ((goal.at.bounds-numbers-second c).Start), few ((goal.at.bounds-numbers-second c).Start))

pub slice_bounds-numbers-end : goal.slice_bounds-numbers-end
slice_bounds-numbers-end c = simp length-set (omega (arith, few ((goal.at.slice_bounds-numbers-end c).Start)))

pub slice_bounds-survival-end : goal.slice_bounds-survival-end
slice_bounds-survival-end c = sym (length-take-le _ _ (simp length-set (omega (arith, few ((goal.at.slice_bounds-survival-end c).Start)))))

pub work-requires : goal.work-requires
work-requires c =
    written-accepted _ c.args.swap _ c.requires _ c.copied-numbers.ensures

pub returns : goal.returns
returns c =
    written-worked _ c.args.swap _ c.requires _ c.copied-numbers.ensures c.work.ensures
