-- `verdict::judge` meets its contract: each arm is the row of its kind, kind 6's by windows that fit the line (`near-window`, `near_first`), and that the
-- rule was accepted tells what the row's windows need. Assumes nothing.
use mathlib.Core.Path.{◌≡◌, refl, sym, ap, ◌∙◌}
use mathlib.Core.Bool.{Bool, true, false, not}
use mathlib.Core.List.{List}
use Prim.Native.Nat.{ℕ, min, ◌+◌, ◌≤◌, ◌<◌, ◌^◌}
use native.Mathlib.Nat.{le_antisymm}
use native.Mathlib.Omega.{arith}
use lib.Dec.{leb}
use Rattle.rules.specs.declared.Rule.{Rule}
use Rattle.rules.specs.declared.Verdict.{Verdict}
use Rattle.rules.specs.declared.Verdict.TheVariants.{Fails}
use Rattle.rules.specs.State.{beside_of}
use Rattle.rules.specs.Below.{within}
use Rattle.rules.specs.Verdict.{some_window, two_near, fails, first_window, first_near, place_of}
use Rattle.rules.specs.Refusal.{most}
use Rattle.rules.specs.Accepted.{Accepted, One, Two}
use Rattle.rules.specs.Answer.{judgment, judged_of}
use Rattle.rules.proofs.Apart.{near-window}
use Rattle.rules.proofs.Lowest.{near_first}
use Rattle.rules.proofs.Accepted.{two-beside, beside-more, range4, range5, range6, range7, range8}
use Rattle.verdict.proofs.InRange.{pairs-accepted}
use Rattle.verdict.proofs.judge.Goals as goal
use Rattle.verdict.proofs.judge.Goals.{In_default}

-- what a window needs
one-window : {rule : Rule} {n : ℕ} {ws : List ℕ} {w k second : ℕ} → (Accepted rule n ws) × (w < 2 ^ n) → One k n second
    → (1 ≤ k) × (k ≤ n) × (n ≤ most) × (w < 2 ^ n)
one-window pre o = (o.low, o.high, pre.0.size_high, pre.1)

two-window : {rule : Rule} {n : ℕ} {ws : List ℕ} {w first r : ℕ} → (Accepted rule n ws) × (w < 2 ^ n) → Two first r n
    → (1 ≤ r) × (r ≤ n) × (n ≤ most) × (w < 2 ^ n)
two-window pre t = (omega arith, t.high, pre.0.size_high, pre.1)

-- kind 6 by windows
same_place : (failing : Bool) (p q : ℕ) → (failing ≡ true → p ≡ q) → judgment failing p ≡ judgment failing q
unfolding judgment
same_place true p q h = ap Fails (h refl)
same_place false p q h = refl

line-window : (n r w width : ℕ) → width ≡ min r n
    → judgment (some_window false n width 2 w) (first_window false n width 2 w) ≡ judgment (two_near n r w) (first_near n r w)
line-window n r w width e = rw (e, ← (near-window n r w)) (same_place (two_near n r w) _ _ (near_first n r w))

-- kinds 2 and 8, which read the list beside the rule
with-beside : (rule : Rule) (n : ℕ) (weights more : List ℕ) (w : ℕ) {beside : List ℕ} {v : Verdict} → beside_of rule weights more ≡ beside
    → v ≡ judgment (fails rule n beside w) (place_of rule n beside w) → v ≡ judged_of rule n weights more w
unfolding judged_of
with-beside rule n weights more w e h = h ∙ ap (λ x. judgment (fails rule n x w) (place_of rule n x w)) (sym e)

-- kind 3's range
twice : (b : Bool) → not (not b) ≡ b
twice true = refl
twice false = refl

-- the last arm is kind 8's
past : {k a : ℕ} → a ≤ k → (k ≡ a → ⊥) → a + 1 ≤ k
past l h = omega arith

eight : (c : In_default) → c.args.rule.kind ≡ 8
eight c =
    let four = past (past (past c.requires.0.kind_low c.in_default.in_default-own.rest.0.0.0.0.0.0.1) c.in_default.in_default-own.rest.0.0.0.0.0.1) c.in_default.in_default-own.rest.0.0.0.0.1 in
    le_antisymm c.requires.0.kind_high (past (past (past (past four c.in_default.in_default-own.rest.0.0.0.1) c.in_default.in_default-own.rest.0.0.1) c.in_default.in_default-own.rest.0.1) c.in_default.in_default-own.rest.1)

pub weighed-requires : goal.weighed-requires
weighed-requires c =
    (rw (two-beside c.args.rule c.args.weights.now c.args.more.now c.in-2.is) at (c.requires.0.weights_length c.in-2.is), c.requires.0.size_high)

pub judge_windows-requires : goal.judge_windows-requires
judge_windows-requires c =
    one-window c.requires (range4 c.requires.0 c.in-4.is)

pub judge_windows-requires-in-5 : goal.judge_windows-requires-in-5
judge_windows-requires-in-5 c =
    one-window c.requires (range5 c.requires.0 c.in-5.is)

pub judge_windows-requires-in-6 : goal.judge_windows-requires-in-6
judge_windows-requires-in-6 c =
    let r = range6 c.requires.0 c.in-6.is in
    (omega (arith, c.fitting.ensures, c.requires.0.size_low), omega (arith, c.fitting.ensures), c.requires.0.size_high, c.requires.1)

pub judge_windows-requires-in-7 : goal.judge_windows-requires-in-7
judge_windows-requires-in-7 c =
    two-window c.requires (range7 c.requires.0 c.in-7.is)

pub judge_pairs-requires : goal.judge_pairs-requires
judge_pairs-requires c =
    let range = rw (beside-more c.args.rule c.args.weights.now c.args.more.now (eight ((goal.at.judge_pairs-requires c).In_default))) at (range8 c.requires.0 (eight ((goal.at.judge_pairs-requires c).In_default))) in
    let ok = pairs-accepted c.args.rule.first c.args.rule.second c.args.n c.args.more.now range in
    record { few = ok.0; pairs = record { size = c.requires.0.size_high; word = c.requires.1; range = ok.1 } }

pub returns-in-1 : goal.returns-in-1
unfolding judged_of fails place_of
returns-in-1 c =
    rw c.in-1.is (c.judge_sum.ensures ∙ ap (λ x. judgment (leb c.args.rule.first x) 0) c.ones_of-failed.ensures)

pub returns-in-2 : goal.returns-in-2
unfolding fails place_of
returns-in-2 c =
    with-beside c.args.rule c.args.n c.args.weights.now c.args.more.now c.args.w (two-beside c.args.rule c.args.weights.now c.args.more.now c.in-2.is)
    (rw c.in-2.is (c.judge_sum-in-2.ensures ∙ ap (λ x. judgment (leb c.args.rule.first x) 0) c.weighed.ensures))

pub returns-in-3 : goal.returns-in-3
unfolding judged_of fails place_of
returns-in-3 c =
    rw c.in-3.is
    (c.judge_sum-in-3.ensures ∙ ap (λ x. judgment (not x) 0) c.outside.ensures
    ∙ ap (λ x. judgment x 0) (twice (within c.args.rule.first _ c.args.rule.second))
    ∙ ap (λ x. judgment (within c.args.rule.first x c.args.rule.second) 0) c.ones_of-failed.ensures)

pub returns-in-4 : goal.returns-in-4
unfolding judged_of fails place_of
returns-in-4 c = rw c.in-4.is c.judge_windows.ensures

pub returns-in-5 : goal.returns-in-5
unfolding judged_of fails place_of
returns-in-5 c = rw c.in-5.is c.judge_windows-in-5.ensures

pub returns-in-6 : goal.returns-in-6
unfolding judged_of fails place_of
returns-in-6 c =
    rw c.in-6.is (c.judge_windows-in-6.ensures ∙ line-window c.args.n c.args.rule.second c.args.w _ c.fitting.ensures)

pub returns-in-7 : goal.returns-in-7
unfolding judged_of fails place_of
returns-in-7 c = rw c.in-7.is c.judge_windows-in-7.ensures

pub returns-in_default : goal.returns-in_default
unfolding fails place_of
returns-in_default c =
    with-beside c.args.rule c.args.n c.args.weights.now c.args.more.now c.args.w (beside-more c.args.rule c.args.weights.now c.args.more.now (eight ((goal.at.returns-in_default c).In_default)))
    (rw (eight ((goal.at.returns-in_default c).In_default)) c.judge_pairs.ensures)
