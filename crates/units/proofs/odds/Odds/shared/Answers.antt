-- `shared` fits 64 bits, both digits' quotients are the share's, and what is taken off is there. Assumes nothing.
use Prim.Native.Nat.{◌+◌, ◌-◌}
use mathlib.Core.Path.{ap, ◌∙◌}
use native.Mathlib.Omega.{arith}
use Rattle.units.proofs.Rows.{products, enough, quotient_is}
use Rattle.units.proofs.odds.Odds.shared.Goals as goal

pub overflow_add-works : goal.overflow_add-works
overflow_add-works c = omega (arith, c.requires.values.left, c.requires.unit.most)

pub overflow_sub-works : goal.overflow_sub-works
overflow_sub-works c = omega (arith, c.requires.values.right)

pub narrow-apart-requires : goal.narrow-apart-requires
narrow-apart-requires c = omega (arith, c.requires.values.left, c.requires.unit.most)

pub overflow_mul-lower : goal.overflow_mul-lower
overflow_mul-lower c = rw c.narrow-apart.ensures (omega (arith, (products c.requires).lower))

pub overflow_add-lower : goal.overflow_add-lower
overflow_add-lower c = rw c.narrow-apart.ensures (omega (arith, (products c.requires).lower, c.requires.few))

pub overflow_mul-result : goal.overflow_mul-result
overflow_mul-result c = rw c.narrow-apart.ensures (omega (arith, (products c.requires).upper))

pub overflow_add-result : goal.overflow_add-result
overflow_add-result c = rw c.narrow-apart.ensures (omega (arith, products c.requires, c.requires.few))

pub overflow_add-result-2 : goal.overflow_add-result-2
overflow_add-result-2 c = rw c.narrow-apart.ensures (omega (arith, products c.requires, c.requires.few, c.requires.values.right, c.requires.unit.most))

pub overflow_sub-result : goal.overflow_sub-result
overflow_sub-result c =
    rw (quotient_is c.args.self.share.0 c.narrow-apart.result c.args.round, c.narrow-apart.ensures) (enough c.requires)

pub returns : goal.returns
returns c =
    ap (λ x. x + c.args.fails - c.args.self.p.0) (quotient_is c.args.self.share.0 c.narrow-apart.result c.args.round) ∙ rw c.narrow-apart.ensures
