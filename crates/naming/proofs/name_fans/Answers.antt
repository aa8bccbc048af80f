-- `name_fans` meets its contract: the parts that are left name the rest. The measure is what is left. Assumes nothing.
use mathlib.Core.Path.{◌≡◌, sym, ap, ◌∙◌}
use mathlib.Core.List.{List}
use Prim.Native.Nat.{ℕ, suc, ◌+◌, ◌-◌, ◌≤◌}
use native.Mathlib.Omega.{arith}
use lib.ListN.{length, take, drop, length-drop}
use lib.Seq.{take_all}
use Rattle.naming.specs.Named.{comma, up_to, named_next, named_all}
use Rattle.naming.proofs.Parts.{left, whole-left, part-named, all_named}
use borrow.Author.Rules.{rules}
use Rattle.naming.proofs.name_fans.Goals as goal
use Rattle.naming.proofs.name_fans.Goals.{After-up_to}

-- what is left of the word
rest-is : (word : List ℕ) (at : ℕ) → take (length word - at) (drop at word) ≡ drop at word
rest-is word at = take_all (length word - at) (drop at word) (omega (arith, length-drop at word))

module _ (c : After-up_to) where
  abbrev word : List ℕ
  word =
      c.args.word.now

  abbrev at : ℕ
  at = c.loop-at.at

  rest-short : c.up_to.result ≤ length word - at
  rest-short = omega (arith, c.up_to.ensures.1, ap length (rest-is word at), length-drop at word)

  comma-is : c.up_to.result ≡ up_to comma (drop at word)
  comma-is = c.up_to.ensures.0 ∙ ap (up_to comma) (rest-is word at)

pub loop-at-init : goal.loop-at-init
loop-at-init c = (omega arith, whole-left _ _ _)

pub slice_bounds-up_to-count : goal.slice_bounds-up_to-count
slice_bounds-up_to-count c = omega (arith, c.loop-at-test.true)

pub slice_bounds-up_to-start : goal.slice_bounds-up_to-start
slice_bounds-up_to-start c = omega (arith, c.loop-at-test.true)

pub slice_bounds-up_to-end : goal.slice_bounds-up_to-end
slice_bounds-up_to-end c = omega arith

pub up_to-requires : goal.up_to-requires
up_to-requires c = search rules

pub overflow_add-end : goal.overflow_add-end
overflow_add-end c =
    omega (arith, c.loop-at-test.true, rest-short ((goal.at.overflow_add-end c).After-up_to))

pub slice_bounds-name_part-count : goal.slice_bounds-name_part-count
slice_bounds-name_part-count c = omega arith

pub slice_bounds-name_part-start : goal.slice_bounds-name_part-start
slice_bounds-name_part-start c =
    omega (arith, c.loop-at-test.true, rest-short ((goal.at.slice_bounds-name_part-start c).After-up_to))

pub slice_bounds-name_part-end : goal.slice_bounds-name_part-end
slice_bounds-name_part-end c =
    omega (arith, c.loop-at-test.true, rest-short ((goal.at.slice_bounds-name_part-end c).After-up_to))

pub name_part-named-requires : goal.name_part-named-requires
name_part-named-requires c = search rules

pub overflow_add-at : goal.overflow_add-at
overflow_add-at c =
    omega (arith, c.loop-at-test.true, rest-short ((goal.at.overflow_add-at c).After-up_to))

pub loop-at-smaller : goal.loop-at-smaller
loop-at-smaller c =
    omega (arith, c.loop-at-test.true, rest-short ((goal.at.loop-at-smaller c).After-up_to))

pub loop-at-preserved : goal.loop-at-preserved
loop-at-preserved c =
    let size = up_to comma (drop c.loop-at.at c.args.word.now) in
    let past : c.loop-at.at + c.up_to.result + 1 ≡ c.loop-at.at + suc size = omega (arith, comma-is ((goal.at.loop-at-preserved c).After-up_to)) in
    let long : c.loop-at.at + c.up_to.result - c.loop-at.at ≡ size = omega (arith, comma-is ((goal.at.loop-at-preserved c).After-up_to)) in (
      omega (arith, c.loop-at-test.true, rest-short ((goal.at.loop-at-preserved c).After-up_to)),
      ap (named_all c.args.n (left c.args.word.now (c.loop-at.at + c.up_to.result + 1))) c.name_part-named.ensures
          ∙ ap (λ a. named_all c.args.n (left c.args.word.now a) (named_next c.args.n (take (c.loop-at.at + c.up_to.result - c.loop-at.at) (drop c.loop-at.at c.args.word.now)) c.loop-at.named)) past
          ∙ ap (λ b. named_all c.args.n (left c.args.word.now (c.loop-at.at + suc size)) (named_next c.args.n (take b (drop c.loop-at.at c.args.word.now)) c.loop-at.named)) long
          ∙ sym (part-named c.args.n c.args.word.now c.loop-at.at c.loop-at-test.true c.loop-at.named)
          ∙ c.loop-at.invariant.1,
    )

pub returns : goal.returns
returns c =
    sym (all_named c.args.n c.args.word.now c.loop-at.at c.loop-at.named (omega (arith, c.loop-at-test.false))) ∙ c.loop-at.invariant.1
