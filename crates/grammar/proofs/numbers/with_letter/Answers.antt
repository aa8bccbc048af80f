-- `numbers::with_letter` meets its contract: 257 times a number below 257^6 fits. Assumes nothing.
use borrow.Author.Tests.{lt-ltb, le-ltb}
use native.Mathlib.Omega.{arith}
use Rattle.grammar.proofs.numbers.with_letter.Goals as goal

pub overflow_mul-result : goal.overflow_mul-result
overflow_mul-result c = omega (arith, c.if-number-lt-SEVEN.true)

pub overflow_add-result : goal.overflow_add-result
overflow_add-result c = omega (arith, c.if-number-lt-SEVEN.true, c.ranges.letter)

pub overflow_add-result-then-number-lt-SEVEN : goal.overflow_add-result-then-number-lt-SEVEN
overflow_add-result-then-number-lt-SEVEN c = omega (arith, c.if-number-lt-SEVEN.true, c.ranges.letter)

pub returns-then-number-lt-SEVEN : goal.returns-then-number-lt-SEVEN
returns-then-number-lt-SEVEN c = simp (lt-ltb _ _ c.if-number-lt-SEVEN.true)

pub returns : goal.returns
returns c = simp (le-ltb _ _ c.if-number-lt-SEVEN.false)
