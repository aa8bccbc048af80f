-- `rated_weights` takes the tests of `ratedOf`; the part that it hands on is the stretch. Assumes nothing.
use native.Mathlib.Omega.{arith}
use borrow.Author.Tests.{eq-eqb, ne_eqb}
use Rattle.rules.proofs.Accepted.{in-stretch}
use Rattle.asked.specs.Parts.{rated_of}
use Rattle.asked.proofs.Refused.{part-is}
use Rattle.asked.proofs.rated_weights.Goals as goal

pub returns-then-rule-ne-WEIGHT : goal.returns-then-rule-ne-WEIGHT
unfolding rated_of
returns-then-rule-ne-WEIGHT c = simp (ne_eqb _ _ c.if-rule-ne-WEIGHT.true)

pub returns-then-weights-n : goal.returns-then-weights-n
unfolding rated_of
returns-then-weights-n c = simp (eq-eqb _ _ c.if-rule-ne-WEIGHT.false, ne_eqb _ _ c.if-weights-n.true)

pub overflow_sub-from : goal.overflow_sub-from
overflow_sub-from c = omega (arith, in-stretch c.args.a c.args.b c.args.n c.requires)

pub offset_bounds-weights-from : goal.offset_bounds-weights-from
offset_bounds-weights-from c = omega (arith, in-stretch c.args.a c.args.b c.args.n c.requires)

pub slice_bounds-result-count-2 : goal.slice_bounds-result-count-2
slice_bounds-result-count-2 c = omega (arith, in-stretch c.args.a c.args.b c.args.n c.requires)

pub returns : goal.returns
unfolding rated_of
returns c = rw (eq-eqb _ _ c.if-rule-ne-WEIGHT.false, eq-eqb _ _ c.if-weights-n.false) (part-is _ _ _ _ c.requires)
