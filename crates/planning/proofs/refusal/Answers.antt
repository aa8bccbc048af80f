-- `refusal` tries the conditions of `plannedRefusal` in their order: past a test that answered no, the refusal is that of what is left. Assumes nothing.
use mathlib.Core.Path.{◌≡◌, refl, sym, ap, ◌∙◌}
use mathlib.Core.Bool.{Bool, false, not}
use mathlib.Core.List.{List, [], ◌∷◌}
use Prim.Native.Nat.{ℕ, ◌-◌}
use native.Mathlib.Omega.{arith}
use lib.ListN.{length, take, drop, length-map}
use borrow.Author.Tests.{lt-ltb, le-ltb}
use Rattle.rules.specs.declared.Rule.{Rule}
use Rattle.rules.specs.Stretch.{stretch}
use lib.Ieee.{Float}
use Rattle.rules.specs.Asked.{weights_of}
use Rattle.rules.specs.Refusal.{cells, after, bad_weights, in_range, short_table, first_of}
use Rattle.rules.specs.Doubles.{Planned, planned_of, asked_in, floats_of, size_in, read_in, no_chance, off_grid, planned_refusal}
use Rattle.rules.proofs.Accepted.{first-of, first-after}
use Rattle.rules.proofs.Numbers.{number-some, handed_on}
use Rattle.rules.proofs.Unless.{after_none, after-some}
use Rattle.doubles.specs.Floats.{bits, bits_of}
use Rattle.asked.specs.Parts.{place_refusal, part_refusal}
use Rattle.asked.proofs.Refused.{place-first, part-first, Placed, placed}
use Rattle.planning.proofs.Stretches.{floats-are}
use Rattle.planning.proofs.refusal.Goals as goal
use Rattle.planning.proofs.refusal.Goals.{Start}

-- what is left past 6, and past 18
abbrev from19 : Planned → (table : List ℕ) → List (ℕ × Bool)
from19 q table = (19, off_grid q.rule (floats_of q)) ∷ (7, short_table table) ∷ []

abbrev from5 : Planned → (table : List ℕ) → List (ℕ × Bool)
from5 q table =
    (5, bad_weights q.rule (length q.survival) q.weights (weights_of (asked_in false q)))
    ∷ (6, not (in_range q.rule (size_in q) (read_in q)))
    ∷ from19 q table

past-place : (q : Planned) (table : List ℕ)
    → planned_refusal q table ≡ after (place_refusal q.rule q.a q.b (length q.survival)) (first_of ((18, no_chance (floats_of q)) ∷ from5 q table))
unfolding planned_refusal
past-place q table = place-first q.rule q.a q.b (length q.survival) _

-- what is asked
abbrev asked : Start → Planned
asked c = planned_of c.args.rule c.args.a c.args.b (bits_of c.args.survival.now) c.args.weights.now c.args.more.now

-- what the two refusals that are called say of what is asked
place-is : (rule : Rule) (a b : ℕ) (xs : List Float) {r : ℕ} → r ≡ place_refusal rule a b (length xs) → r ≡ place_refusal rule a b (length (bits_of xs))
place-is rule a b xs e = e ∙ ap (place_refusal rule a b) (sym (length-map xs bits))

part-is : (rule : Rule) (a b : ℕ) (xs : List Float) (weights more : List ℕ) {r : ℕ}
    → r ≡ part_refusal rule a b (length xs) weights more → r ≡ part_refusal rule a b (length (bits_of xs)) weights more
part-is rule a b xs weights more e = e ∙ ap (λ n. part_refusal rule a b n weights more) (sym (length-map xs bits))

-- the place, where it is not refused
inside : (rule : Rule) (a b n : ℕ) {r : ℕ} → r ≡ place_refusal rule a b n → r ≡ 0 → Placed rule a b n
inside rule a b n e none = placed rule a b n (sym e ∙ none)

-- the floats of the stretch are those that are read
read : (rule : Rule) (a b : ℕ) (xs : List Float) {r : ℕ} → r ≡ place_refusal rule a b (length xs) → r ≡ 0
    → bits_of (take (b - (a - 1)) (drop (a - 1) xs)) ≡ stretch a b (bits_of xs)
read rule a b xs e none = floats-are a b (length xs) xs (inside rule a b (length xs) e none).inside

out : (rule : Rule) (a b : ℕ) (xs : List Float) {r : ℕ} {o : Bool} → r ≡ place_refusal rule a b (length xs) → r ≡ 0
    → o ≡ no_chance (bits_of (take (b - (a - 1)) (drop (a - 1) xs))) → no_chance (stretch a b (bits_of xs)) ≡ o
out rule a b xs e none w = sym (w ∙ ap no_chance (read rule a b xs e none))

off : (rule : Rule) (a b : ℕ) (xs : List Float) {r : ℕ} {o : Bool} → r ≡ place_refusal rule a b (length xs) → r ≡ 0
    → o ≡ off_grid rule (bits_of (take (b - (a - 1)) (drop (a - 1) xs))) → off_grid rule (stretch a b (bits_of xs)) ≡ o
off rule a b xs e none w = sym (w ∙ ap (off_grid rule) (read rule a b xs e none))

-- what is left past each test
left1 : (q : Planned) (table : List ℕ) {r : ℕ} → r ≡ place_refusal q.rule q.a q.b (length q.survival) → r ≡ 0
    → planned_refusal q table ≡ first_of ((18, no_chance (floats_of q)) ∷ from5 q table)
left1 q table e none = past-place q table ∙ after_none _ _ (sym e ∙ none)

left2 : (q : Planned) (table : List ℕ) {r : ℕ} → r ≡ place_refusal q.rule q.a q.b (length q.survival) → r ≡ 0 → no_chance (floats_of q) ≡ false
    → planned_refusal q table ≡ after (part_refusal q.rule q.a q.b (length q.survival) q.weights q.more) (first_of (from19 q table))
left2 q table e none chances = left1 q table e none ∙ first-after 18 _ _ chances ∙ part-first _ _ _ _ _ _ _

left3 : (q : Planned) (table : List ℕ) {r s : ℕ} → r ≡ place_refusal q.rule q.a q.b (length q.survival) → r ≡ 0 → no_chance (floats_of q) ≡ false
    → s ≡ part_refusal q.rule q.a q.b (length q.survival) q.weights q.more → s ≡ 0 → planned_refusal q table ≡ first_of (from19 q table)
left3 q table e none chances p fits = left2 q table e none chances ∙ after_none _ _ (sym p ∙ fits)

pub returns-in_err-place_refusal : goal.returns-in_err-place_refusal
returns-in_err-place_refusal c =
    let e = place-is c.args.rule c.args.a c.args.b c.args.survival.now c.in_err-place_refusal.ensures in
    handed_on _ _ c.from_residual.ensures.1
    (e ∙ sym (past-place (asked ((goal.at.returns-in_err-place_refusal c).Start)) c.args.table.now ∙ after-some _ _ (λ none. number-some _ (e ∙ none))))

pub overflow_sub-from : goal.overflow_sub-from
overflow_sub-from c = omega (arith, (inside _ _ _ _ c.in_ok-place_refusal.ensures refl).fits)

pub offset_bounds-survival-from : goal.offset_bounds-survival-from
offset_bounds-survival-from c = omega (arith, (inside _ _ _ _ c.in_ok-place_refusal.ensures refl).fits)

pub slice_bounds-floats-count : goal.slice_bounds-floats-count
slice_bounds-floats-count c = omega (arith, (inside _ _ _ _ c.in_ok-place_refusal.ensures refl).fits)

pub slice_bounds-floats-start : goal.slice_bounds-floats-start
slice_bounds-floats-start c = omega (arith, (inside _ _ _ _ c.in_ok-place_refusal.ensures refl).fits)

pub slice_bounds-floats-end : goal.slice_bounds-floats-end
slice_bounds-floats-end c = omega (arith, (inside _ _ _ _ c.in_ok-place_refusal.ensures refl).fits)

pub returns-then-outside : goal.returns-then-outside
returns-then-outside c = sym (left1 (asked ((goal.at.returns-then-outside c).Start)) c.args.table.now (place-is c.args.rule c.args.a c.args.b c.args.survival.now c.in_ok-place_refusal.ensures) refl ∙ first-of 18 _ _ (out c.args.rule c.args.a c.args.b c.args.survival.now c.in_ok-place_refusal.ensures refl c.outside.ensures ∙ c.if-outside.true))

pub returns-in_err-part_refusal : goal.returns-in_err-part_refusal
returns-in_err-part_refusal c =
    let e = part-is c.args.rule c.args.a c.args.b c.args.survival.now c.args.weights.now c.args.more.now c.in_err-part_refusal.ensures in
    handed_on _ _ c.from_residual-in_err-part_refusal.ensures.1 (e ∙ sym (left2 (asked ((goal.at.returns-in_err-part_refusal c).Start)) c.args.table.now (place-is c.args.rule c.args.a c.args.b c.args.survival.now c.in_ok-place_refusal.ensures) refl (out c.args.rule c.args.a c.args.b c.args.survival.now c.in_ok-place_refusal.ensures refl c.outside.ensures ∙ c.if-outside.false) ∙ after-some _ _ (λ none. number-some _ (e ∙ none))))

pub off_grid-requires : goal.off_grid-requires
off_grid-requires c = sym c.outside.ensures ∙ c.if-outside.false

pub returns-then-off_grid : goal.returns-then-off_grid
returns-then-off_grid c = sym (left3 (asked ((goal.at.returns-then-off_grid c).Start)) c.args.table.now (place-is c.args.rule c.args.a c.args.b c.args.survival.now c.in_ok-place_refusal.ensures) refl (out c.args.rule c.args.a c.args.b c.args.survival.now c.in_ok-place_refusal.ensures refl c.outside.ensures ∙ c.if-outside.false) (part-is c.args.rule c.args.a c.args.b c.args.survival.now c.args.weights.now c.args.more.now c.in_ok-part_refusal.ensures) refl ∙ first-of 19 _ _ (off c.args.rule c.args.a c.args.b c.args.survival.now c.in_ok-place_refusal.ensures refl c.off_grid.ensures ∙ c.if-off_grid.true))

pub returns-then-table-lt-CELLS : goal.returns-then-table-lt-CELLS
returns-then-table-lt-CELLS c = sym (left3 (asked ((goal.at.returns-then-table-lt-CELLS c).Start)) c.args.table.now (place-is c.args.rule c.args.a c.args.b c.args.survival.now c.in_ok-place_refusal.ensures) refl (out c.args.rule c.args.a c.args.b c.args.survival.now c.in_ok-place_refusal.ensures refl c.outside.ensures ∙ c.if-outside.false) (part-is c.args.rule c.args.a c.args.b c.args.survival.now c.args.weights.now c.args.more.now c.in_ok-part_refusal.ensures) refl ∙ first-after 19 _ _ (off c.args.rule c.args.a c.args.b c.args.survival.now c.in_ok-place_refusal.ensures refl c.off_grid.ensures ∙ c.if-off_grid.false) ∙ first-of 7 _ [] (lt-ltb _ _ c.if-table-lt-CELLS.true))

pub returns : goal.returns
unfolding first_of
returns c = sym (left3 (asked ((goal.at.returns c).Start)) c.args.table.now (place-is c.args.rule c.args.a c.args.b c.args.survival.now c.in_ok-place_refusal.ensures) refl (out c.args.rule c.args.a c.args.b c.args.survival.now c.in_ok-place_refusal.ensures refl c.outside.ensures ∙ c.if-outside.false) (part-is c.args.rule c.args.a c.args.b c.args.survival.now c.args.weights.now c.args.more.now c.in_ok-part_refusal.ensures) refl ∙ rw (off c.args.rule c.args.a c.args.b c.args.survival.now c.in_ok-place_refusal.ensures refl c.off_grid.ensures ∙ c.if-off_grid.false, le-ltb (length c.args.table.now) cells c.if-table-lt-CELLS.false))
