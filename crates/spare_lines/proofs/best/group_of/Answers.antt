-- `best::group_of` meets its contract: the places passed are sorted. Assumes nothing.
use mathlib.Core.Path.{◌≡◌, refl, ap, ◌∙◌}
use mathlib.Core.Bool.{Bool, true, false, cond}
use Prim.Native.Nat.{◌+◌, ◌^◌, ◌≤◌, ◌<◌}
use native.Mathlib.Omega.{arith}
use lib.ListN.{get_or}
use mir.Val.{bool_byte}
use Rattle.rules.specs.State.{S}
use Rattle.spare_lines.specs.Ranks.{left_in}
use Rattle.spares.proofs.Highest.{highest-within}
use Rattle.spare_lines.proofs.Grouping.{none_passed, one-passed, few-counted, all-passed}
use Rattle.spare_lines.proofs.best.group_of.Goals as goal
use Rattle.spare_lines.proofs.best.group_of.Goals.{then-was, else-was, then-was-2, else-was-2}

one-most : (b : Bool) → cond b 1 0 ≤ 1
one-most true = omega arith
one-most false = omega arith

as-byte : (b : Bool) → bool_byte b ≡ cond b 1 0
as-byte true = refl
as-byte false = refl

pub highest-requires : goal.highest-requires
highest-requires c = c.requires.few

pub overflow_add-top : goal.overflow_add-top
overflow_add-top c =
    let top = highest-within S _ (left_in c.args.left) c.args.size (λ i l e. (c.requires.within.after i).0) in
    omega (arith, c.highest.ensures, top, c.requires.within.now)

pub loop-i-init : goal.loop-i-init
loop-i-init c = none_passed _ _ _ _ c.requires.long

pub bounds-high-i : goal.bounds-high-i
bounds-high-i c = omega (arith, c.loop-i-test.true, c.requires.few)

pub overflow_add-reaches : goal.overflow_add-reaches
overflow_add-reaches c =
    let fit : get_or c.args.places.high c.loop-i.i 0 + c.args.before.high < 2 ^ 64 = omega (arith, c.requires.within.after c.loop-i.i, c.requires.within.now) in
    record { fits = fit }

pub bounds-left-i : goal.bounds-left-i
bounds-left-i c = omega (arith, c.loop-i-test.true, c.requires.few)

pub bounds-alike-i : goal.bounds-alike-i
bounds-alike-i c = omega (arith, c.loop-i-test.true, c.requires.few)

pub bounds-rest-i : goal.bounds-rest-i
bounds-rest-i c = omega (arith, c.loop-i-test.true, c.requires.few)

pub overflow_add-count : goal.overflow_add-count
overflow_add-count c =
    omega (arith, c.loop-i-test.true, c.requires.few, few-counted c.loop-i.invariant, c.from.ensures, as-byte c.if-was.tied, one-most c.if-was.tied)

pub loop-i-preserved : goal.loop-i-preserved
loop-i-preserved c =
    one-passed _ _ _ _ c.loop-i.invariant (omega (arith, c.loop-i-test.true, c.requires.few))
    (elim c.if-was.branch [ then-was w ↦ w.tied-is ∙ rw w.if-was.true | else-was w ↦ w.tied-is ∙ rw w.if-was.false ])
    (elim c.if-was-2.branch [ then-was-2 w ↦ w.rest-is ∙ rw w.if-was-2.true | else-was-2 w ↦ w.rest-is ∙ rw w.if-was-2.false ])
    (c.from.ensures ∙ as-byte c.if-was.tied)

pub returns : goal.returns
returns c =
    let all : c.loop-i.i ≡ c.args.size = omega arith in
    all-passed c.args.places c.args.before (ap (λ t. t + c.args.before.low) c.highest.ensures) (rw all at c.loop-i.invariant)
