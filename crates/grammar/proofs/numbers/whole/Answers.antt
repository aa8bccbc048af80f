-- `numbers::whole` meets its contract: a turn takes a digit more. Assumes nothing.
use mathlib.Core.Path.{sym, ◌∙◌}
use native.Mathlib.Numerals.{add-one}
use borrow.Author.Tests.{eq-eqb}
use Rattle.grammar.specs.Numbers.{whole}
use Rattle.grammar.proofs.Reading.{whole-some, digit-on, digit-none, digits-end}
use native.Mathlib.Omega.{arith}
use Rattle.grammar.proofs.numbers.whole.Goals as goal

pub returns-then-word-eq0 : goal.returns-then-word-eq0
unfolding whole
returns-then-word-eq0 c = (simp (eq-eqb _ _ c.if-word-eq0.true), omega arith)

pub loop-b-init : goal.loop-b-init
loop-b-init c = (omega arith, whole-some c.args.word.now c.if-word-eq0.false)

pub returns-then-not-is_digit : goal.returns-then-not-is_digit
returns-then-not-is_digit c =
    let b = sym c.is_digit.ensures ∙ c.if-not-is_digit.true in
    (sym (c.loop-b.invariant.1 ∙ digit-none c.args.word.now c.loop-b.b-index c.loop-b-test.true c.loop-b.number b), omega arith)

pub loop-b-preserved : goal.loop-b-preserved
loop-b-preserved c =
    let b = sym c.is_digit.ensures ∙ c.if-not-is_digit.false in
    (c.with_digit-number.ensures.1, rw (add-one, c.with_digit-number.ensures.0) (c.loop-b.invariant.1 ∙ digit-on c.args.word.now c.loop-b.b-index c.loop-b-test.true c.loop-b.number b))

pub returns : goal.returns
returns c = (sym (c.loop-b.invariant.1 ∙ digits-end c.args.word.now c.loop-b.b-index (omega (arith, c.loop-b-test.false)) c.loop-b.number), c.loop-b.invariant.0)
