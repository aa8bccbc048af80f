-- `share` is made of two quotients, each within its parts. Assumes nothing.
use Prim.Native.Nat.{◌*◌, ◌-◌}
use native.Mathlib.Omega.{arith}
use Rattle.units.specs.Share.{digit}
use Rattle.units.proofs.Making.{Quotient, upper_parts, quotient, rest-less, made}
use Rattle.units.proofs.share.share.Goals as goal
use Rattle.units.proofs.share.share.Goals.{After-over, After-over-upper}

pub overflow_mul-x : goal.overflow_mul-x
overflow_mul-x c = omega (arith, c.requires.1, c.requires.0.most)

pub over-upper-requires : goal.over-upper-requires
over-upper-requires c = c.requires.0.some

-- the upper digits, and then the lower ones
upper : (c : After-over-upper) → Quotient c.args.unit c.args.x digit c.over-upper.result
upper c = quotient c.requires.0 digit (omega (arith, c.requires.1)) c.over-upper.ensures

lower : (c : After-over) → let a = c.args in
    Quotient a.unit (a.x * digit - c.over-upper.result * a.unit) upper_parts c.over.result
lower c = quotient c.requires.0 upper_parts (omega (arith, rest-less (upper c.before))) c.over.ensures

pub overflow_mul-left : goal.overflow_mul-left
overflow_mul-left c = omega (arith, c.requires.1, c.requires.0.most)

pub overflow_mul-left-2 : goal.overflow_mul-left-2
overflow_mul-left-2 c = omega (arith, (upper ((goal.at.overflow_mul-left-2 c).After-over-upper)).low, c.requires.1, c.requires.0.most)

pub overflow_sub-left : goal.overflow_sub-left
overflow_sub-left c = (upper ((goal.at.overflow_sub-left c).After-over-upper)).low

pub overflow_mul-result : goal.overflow_mul-result
overflow_mul-result c = omega (arith, (upper ((goal.at.overflow_mul-result c).After-over-upper)).most)

pub overflow_mul-left-3 : goal.overflow_mul-left-3
overflow_mul-left-3 c = omega (arith, rest-less (upper ((goal.at.overflow_mul-left-3 c).After-over-upper)), c.requires.0.most)

pub over-requires : goal.over-requires
over-requires c = c.requires.0.some

pub overflow_add-result : goal.overflow_add-result
overflow_add-result c = omega (arith, (upper ((goal.at.overflow_add-result c).After-over-upper)).most, (lower ((goal.at.overflow_add-result c).After-over)).most)

pub overflow_add-result-2 : goal.overflow_add-result-2
overflow_add-result-2 c = omega (arith, (upper ((goal.at.overflow_add-result-2 c).After-over-upper)).most, (lower ((goal.at.overflow_add-result-2 c).After-over)).most)

pub returns : goal.returns
returns c = made (upper ((goal.at.returns c).After-over-upper)) (lower ((goal.at.returns c).After-over))
