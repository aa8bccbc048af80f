-- `rate` takes the kinds apart; the figure of each room is the rule's. Assumes nothing.
use mathlib.Core.Path.{refl}
use Prim.Native.Nat.{◌≤◌}
use native.Mathlib.Omega.{arith}
use Rattle.rules.specs.Memory.{reading_of}
use Rattle.rules.proofs.Accepted.{beside-more, range4, range5, range6, range7}
use Rattle.engine.proofs.Rooms.{beside-early, in_rows, in-runs, in-gaps, in-windows, room-is, reads-is}
use Rattle.engine.proofs.rate.Goals as goal
use Rattle.engine.proofs.rate.Goals.{In_default}

pub line-requires : goal.line-requires
line-requires c =
    in-runs c.args.decimal c.requires (range4 c.requires.accepted c.in-4.is)

pub ring-requires : goal.ring-requires
ring-requires c =
    in-runs c.args.decimal c.requires (range5 c.requires.accepted c.in-5.is)

pub line-requires-in-6 : goal.line-requires-in-6
line-requires-in-6 c =
    in-gaps c.args.decimal c.requires (range6 c.requires.accepted c.in-6.is)

pub ring-requires-in-7 : goal.ring-requires-in-7
ring-requires-in-7 c =
    in-gaps c.args.decimal c.requires (range7 c.requires.accepted c.in-7.is)

pub rate-requires : goal.rate-requires
rate-requires c =
    in-windows c.args.decimal c.requires (beside-more c.args.rule c.args.weights.now c.args.more.now c.in-8.is) c.in-8.is

-- a kind from 1 to 8 that is none of 4 to 8
early : (c : In_default) →
    let known = c.before.before.before.before in
    let start = known.before in
    start.args.rule.kind ≤ 3
early c =
    omega (arith, c.requires.accepted.kind_high)

pub rate-requires-in_default : goal.rate-requires-in_default
rate-requires-in_default c =
    in_rows c.args.decimal c.requires (beside-early c.args.rule c.args.weights.now c.args.more.now (early ((goal.at.rate-requires-in_default c).In_default))) (early ((goal.at.rate-requires-in_default c).In_default))

pub returns-in-4 : goal.returns-in-4
unfolding reading_of
returns-in-4 c = record { figure = room-is _ _ _ _ 4 c.in-4.is (λ up. refl) c.line.ensures.figure; kept = c.line.ensures.kept }

pub returns-in-5 : goal.returns-in-5
unfolding reading_of
returns-in-5 c = record { figure = room-is _ _ _ _ 5 c.in-5.is (λ up. refl) c.ring.ensures.figure; kept = c.ring.ensures.kept }

pub returns-in-6 : goal.returns-in-6
unfolding reading_of
returns-in-6 c =
    record { figure = room-is _ _ _ _ 6 c.in-6.is (λ up. refl) c.line-in-6.ensures.figure; kept = c.line-in-6.ensures.kept }

pub returns-in-7 : goal.returns-in-7
unfolding reading_of
returns-in-7 c =
    record { figure = room-is _ _ _ _ 7 c.in-7.is (λ up. refl) c.ring-in-7.ensures.figure; kept = c.ring-in-7.ensures.kept }

pub returns-in-8 : goal.returns-in-8
unfolding reading_of
returns-in-8 c =
    record { figure = reads-is _ c.args.rule _ (beside-more c.args.rule c.args.weights.now c.args.more.now c.in-8.is) (room-is _ c.args.rule _ _ 8 c.in-8.is (λ up. refl) c.rate.ensures.figure); kept = c.rate.ensures.kept }

pub returns-in_default : goal.returns-in_default
returns-in_default c =
    record { figure = reads-is _ c.args.rule _ (beside-early c.args.rule c.args.weights.now c.args.more.now (early ((goal.at.returns-in_default c).In_default))) c.rate-in_default.ensures.figure; kept = c.rate-in_default.ensures.kept }
