-- `last_of` meets its contract, by its one test. Assumes nothing.
use mathlib.Core.Path.{sym, ap, ◌∙◌}
use Prim.Native.Nat.{suc, ◌+◌, ◌-◌}
use native.Mathlib.Omega.{arith}
use native.Mathlib.Numerals.{add-one}
use lib.ListN.{length, drop, length-drop}
use lib.Seq.{take_all}
use borrow.Author.Tests.{lt-ltb, le-ltb}
use borrow.Author.Rules.{rules}
use mathlib.Core.Bool.{cond}
use Rattle.naming.specs.Named.{minus, up_to, number_in, first_in}
use Rattle.naming.proofs.last_of.Goals as goal
use Rattle.naming.proofs.last_of.Goals.{Else-at-part}

pub returns-then-at-part : goal.returns-then-at-part
returns-then-at-part c =
    c.requires.2 ∙ sym (ap (λ t. cond t (number_in (drop (suc (up_to minus c.args.part.now)) c.args.part.now)) (first_in c.args.part.now))
    (le-ltb (up_to minus c.args.part.now) (length c.args.part.now) (omega (arith, c.requires.0, c.if-at-part.true))))

pub overflow_add-at : goal.overflow_add-at
overflow_add-at c = search rules

pub slice_bounds-number_of-count : goal.slice_bounds-number_of-count
slice_bounds-number_of-count c = omega (arith, c.requires.1, c.if-at-part.false)

pub slice_bounds-number_of-start : goal.slice_bounds-number_of-start
slice_bounds-number_of-start c = omega (arith, c.requires.1, c.if-at-part.false)

pub slice_bounds-number_of-end : goal.slice_bounds-number_of-end
slice_bounds-number_of-end c = search rules

pub number_of-requires : goal.number_of-requires
number_of-requires c = search rules

pub returns : goal.returns
returns c =
    let some = lt-ltb (up_to minus c.args.part.now) (length c.args.part.now) (omega (arith, c.requires.0, c.requires.1, c.if-at-part.false)) in
    let all = take_all (length c.args.part.now - (c.args.at + 1)) (drop (c.args.at + 1) c.args.part.now) (omega (arith, length-drop (c.args.at + 1) c.args.part.now)) in
    c.number_of.ensures
    ∙ ap number_in (all ∙ ap (λ n. drop n c.args.part.now) (add-one c.args.at ∙ ap suc c.requires.0))
    ∙ sym (ap (λ t. cond t (number_in (drop (suc (up_to minus c.args.part.now)) c.args.part.now)) (first_in c.args.part.now)) some)
