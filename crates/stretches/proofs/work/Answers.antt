-- `work` rates the part where it stands; without a refusal the part can be rated, and its figures are those asked for. Assumes nothing.
use mathlib.Core.Path.{ap, ◌∙◌}
use mathlib.Core.Bool.{true, false}
use mathlib.Core.List.{List}
use Prim.Native.Nat.{ℕ, ◌-◌}
use native.Mathlib.Omega.{arith}
use lib.ListN.{take, drop}
use borrow.Author.Rules.{rules}
use Rattle.rules.specs.Asked.{Asked, asked_with}
use Rattle.rules.specs.Boards.{boards_read}
use Rattle.units.specs.Step.{whole}
use Rattle.asked.proofs.Refused.{part-is}
use Rattle.stretches.proofs.Part.{Handed, inside, fits, listed, handed-able, handed-figure}
use Rattle.stretches.proofs.work.Goals as goal
use Rattle.stretches.proofs.work.Goals.{After-is_decimal-decimal}

-- what is asked, and the part of a list that is handed on
abbrev asked : After-is_decimal-decimal → Asked
asked c =
    asked_with c.args.question c.args.lists.now

abbrev part : List ℕ → After-is_decimal-decimal → List ℕ
part xs c = let q = asked c in take (q.b - (q.a - 1)) (drop (q.a - 1) xs)

-- the lists that are handed to the boards are those of what is asked
handed : (c : After-is_decimal-decimal)
    → Handed (asked c) (whole c.is_decimal-decimal.result) (part (asked c).survival c) c.rated_weights-rated.result.now
    c.boards_read-placed.result.now c.numbers_read-own.result.now
handed c =
    let q = asked c in
    let three = inside _ _ c.requires in
    record {
      unit = c.is_decimal-decimal.ensures;
      part = part-is q.a q.b _ q.survival three;
      rated = c.rated_weights-rated.ensures;
      placed = c.boards_read-placed.ensures ∙ ap (boards_read q.version) (part-is q.a q.b _ q.boards three);
      own = c.numbers_read-own.ensures;
    }

pub overflow_sub-start : goal.overflow_sub-start
overflow_sub-start c = omega (arith, fits _ _ c.requires)

pub rated_weights-rated-requires : goal.rated_weights-rated-requires
rated_weights-rated-requires c = inside _ _ c.requires

pub boards_read-placed-requires : goal.boards_read-placed-requires
boards_read-placed-requires c = let h = fits _ _ c.requires in (omega arith, λ has. listed _ _ c.requires has)

pub offset_bounds-lists-start : goal.offset_bounds-lists-start
offset_bounds-lists-start c = omega (arith, fits _ _ c.requires)

pub slice_bounds-rate-count : goal.slice_bounds-rate-count
slice_bounds-rate-count c = omega (arith, fits _ _ c.requires)

pub slice_bounds-rate-start : goal.slice_bounds-rate-start
slice_bounds-rate-start c = omega (arith, fits _ _ c.requires)

pub slice_bounds-rate-end : goal.slice_bounds-rate-end
slice_bounds-rate-end c = omega (arith, fits _ _ c.requires)

pub rate-requires : goal.rate-requires
rate-requires c =
    let both = handed-able _ _ c.requires (handed ((goal.at.rate-requires c).After-is_decimal-decimal)) in
    record { able = both.0; boarded = both.1 }

pub returns : goal.returns
returns c =
    let figure = handed-figure _ _ c.requires (handed ((goal.at.returns c).After-is_decimal-decimal)) in
    record { low = c.rate.ensures.figure.low ∙ figure false; high = c.rate.ensures.figure.high ∙ figure true; kept = c.rate.ensures.kept }
