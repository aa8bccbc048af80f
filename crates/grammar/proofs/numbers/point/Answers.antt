-- `numbers::point` meets its contract: no byte that was passed is a point. Assumes nothing.
use native.Mathlib.Numerals.{add-one}
use native.Mathlib.Omega.{arith}
use Rattle.grammar.proofs.Reading.{point-here, point-on, point-end}
use Rattle.grammar.proofs.numbers.point.Goals as goal

pub returns-then-b-eq-POINT : goal.returns-then-b-eq-POINT
returns-then-b-eq-POINT c = (omega (arith, c.loop-i.invariant, point-here c.args.word.now c.loop-i.i c.loop-i-test.true c.if-b-eq-POINT.true), omega arith)

pub loop-i-preserved : goal.loop-i-preserved
loop-i-preserved c = rw add-one (omega (arith, c.loop-i.invariant, point-on c.args.word.now c.loop-i.i c.loop-i-test.true c.if-b-eq-POINT.false))

pub returns : goal.returns
returns c = (omega (arith, c.loop-i.invariant, c.loop-i-test.false, point-end c.args.word.now c.loop-i.i (omega (arith, c.loop-i-test.false))), omega arith)
