-- `rate_list` rates a list that has the stretch's whole numbers in their places: what is not refused in floats is not refused so, and the figures read the
use borrow.Author.Rules.{rules}
use mathlib.Core.Path.{◌≡◌, sym, ap, ◌∙◌}
use mathlib.Core.Bool.{false}
use mathlib.Core.List.{[], map}
use Prim.Native.Nat.{◌≤◌}
use native.Mathlib.Omega.{arith}
use lib.ListN.{length, take, length-map}
use lib.Seq.{length-take-le}
use Rattle.rules.specs.Stretch.{stretch}
use Rattle.rules.specs.Asked.{question_of}
use Rattle.rules.specs.Refusal.{most, bad_stretch}
use Rattle.rules.specs.Doubles.{no_chance, whole_of}
use Rattle.rules.proofs.Lists.{map-stretch}
use Rattle.rules.proofs.Doubles.{passed, planned-accepted}
use Rattle.doubles.specs.Floats.{bits, bits_of}
use Rattle.planning.proofs.Stretches.{floats-are, floats-length, filled-stretch, worked_same, planned-fits, planned-most}
use Rattle.planning.proofs.rate_list.Goals as goal
use Rattle.planning.proofs.rate_list.Goals.{After-numbers_of-numbers, Start}

-- stretch alone. Assumes nothing.
-- what is known of the list's length and of the stretch
length-is : (c : Start) → length (bits_of c.args.survival.now) ≡ length c.args.survival.now
length-is c = length-map c.args.survival.now bits

fits : (c : Start) → let x = c.args in (1 ≤ x.a) × (x.a ≤ x.b) × (x.b ≤ length x.survival.now)
fits c = rw (length-is c) at (planned-fits _ _ c.requires)

small : (c : Start) → length c.args.survival.now ≤ most
small c = rw (length-is c) at (planned-most _ _ c.requires)

inside : (c : Start) → bad_stretch c.args.a c.args.b (length c.args.survival.now) ≡ false
inside c = rw (length-is c) at (passed _ _ c.requires).inside

pub overflow_sub-from : goal.overflow_sub-from
overflow_sub-from c = omega (arith, fits ((goal.at.overflow_sub-from c).Start))

pub offset_bounds-survival-from : goal.offset_bounds-survival-from
offset_bounds-survival-from c = omega (arith, fits ((goal.at.offset_bounds-survival-from c).Start), small ((goal.at.offset_bounds-survival-from c).Start))

pub slice_bounds-numbers_of-count : goal.slice_bounds-numbers_of-count
slice_bounds-numbers_of-count c = omega (arith, fits ((goal.at.slice_bounds-numbers_of-count c).Start))

pub slice_bounds-numbers_of-start : goal.slice_bounds-numbers_of-start
slice_bounds-numbers_of-start c = omega (arith, fits ((goal.at.slice_bounds-numbers_of-start c).Start))

pub slice_bounds-numbers_of-end : goal.slice_bounds-numbers_of-end
slice_bounds-numbers_of-end c = omega (arith, fits ((goal.at.slice_bounds-numbers_of-end c).Start))

pub numbers_of-numbers-requires : goal.numbers_of-numbers-requires
numbers_of-numbers-requires c =
    record {
      chances = ap no_chance (floats-are c.args.a c.args.b _ c.args.survival.now (inside ((goal.at.numbers_of-numbers-requires c).Start))) ∙ (passed _ _ c.requires).chances;
      fits = omega (arith, floats-length c.args.up c.args.a c.args.b c.args.survival.now (inside ((goal.at.numbers_of-numbers-requires c).Start)), fits ((goal.at.numbers_of-numbers-requires c).Start), small ((goal.at.numbers_of-numbers-requires c).Start));
    }

pub slice_bounds-numbers-end : goal.slice_bounds-numbers-end
slice_bounds-numbers-end c = omega (arith, c.numbers_of-numbers.ensures.long, small ((goal.at.slice_bounds-numbers-end c).Start))

pub slice_bounds-lists-end : goal.slice_bounds-lists-end
slice_bounds-lists-end c = sym (length-take-le _ _ (omega (arith, c.numbers_of-numbers.ensures.long, small ((goal.at.slice_bounds-lists-end c).Start))))

-- the numbers handed on
handed : (c : After-numbers_of-numbers) → let x = c.args in
    let list = take (length x.survival.now) c.numbers_of-numbers.result in
    (length list ≡ length x.survival.now) × (stretch x.a x.b list ≡ map (whole_of x.up) (stretch x.a x.b (bits_of x.survival.now)))
handed c =
    let called = c.before.before.before.before in
    let start = called.before.before.before in
    filled-stretch c.args.up c.args.a c.args.b c.args.survival.now (inside start) _ (small start) c.numbers_of-numbers.ensures

pub work-requires : goal.work-requires
work-requires c =
    planned-accepted _ _ c.requires c.args.up _ ((handed ((goal.at.work-requires c).After-numbers_of-numbers)).0 ∙ sym (length-is ((goal.at.work-requires c).Start))) (handed ((goal.at.work-requires c).After-numbers_of-numbers)).1

pub returns : goal.returns
returns c =
    worked_same (question_of 1 c.args.rule c.args.a c.args.b) _ _ c.args.weights.now c.args.more.now [] []
    ((handed ((goal.at.returns c).After-numbers_of-numbers)).1 ∙ map-stretch (whole_of c.args.up) c.args.a c.args.b (bits_of c.args.survival.now)) c.work.ensures
