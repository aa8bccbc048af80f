-- `put_low` divides by a unit that there is. Assumes nothing.
use borrow.Author.Rules.{rules}
use Rattle.units.proofs.Laws.{whole-some}
use Rattle.telling.proofs.chance.put_low.Goals as goal

pub whole-requires : goal.whole-requires
whole-requires c = search rules

pub overflow_mul-low : goal.overflow_mul-low
overflow_mul-low c = search rules

pub over-requires : goal.over-requires
over-requires c = rw c.whole.ensures (whole-some _)

pub put_form-requires : goal.put_form-requires
put_form-requires c = search rules

pub shape_of-out : goal.shape_of-out
shape_of-out c = search rules

pub returns : goal.returns
returns c = search rules
