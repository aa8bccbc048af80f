-- `numbers::with_digit` meets its contract: ten times a number up to 2^32 fits. Assumes nothing.
use borrow.Author.Tests.{lt-ltb, le-ltb}
use Rattle.grammar.proofs.Reading.{digit-range}
use native.Mathlib.Omega.{arith}
use Rattle.grammar.proofs.numbers.with_digit.Goals as goal

pub overflow_mul-next : goal.overflow_mul-next
overflow_mul-next c = omega (arith, c.requires.0)

pub overflow_sub-next : goal.overflow_sub-next
overflow_sub-next c = omega (arith, (digit-range c.args.b c.requires.1).0)

pub overflow_add-next : goal.overflow_add-next
overflow_add-next c = omega (arith, c.requires.0, c.ranges.b)

pub returns-then-next-lt-NONE : goal.returns-then-next-lt-NONE
returns-then-next-lt-NONE c = (simp (lt-ltb _ _ c.if-next-lt-NONE.true), omega (arith, c.if-next-lt-NONE.true))

pub returns : goal.returns
returns c = (simp (le-ltb _ _ c.if-next-lt-NONE.false), omega arith)
