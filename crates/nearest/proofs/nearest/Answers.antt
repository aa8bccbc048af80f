-- `nearest` puts the digits behind the exponent's field. Assumes nothing.
use mathlib.Core.Path.{◌≡◌, sym, subst}
use Prim.Native.Nat.{ℕ, ◌<◌}
use native.Mathlib.Omega.{arith}
use lib.Ieee.{binary64, of_bits}
use Rattle.nearest.specs.Nearest.{Nearest}
use Rattle.nearest.proofs.Pattern.{Placed, under, defined}
use Rattle.nearest.proofs.Values.{placed, nearest-of, nothing}
use Rattle.nearest.proofs.nearest.Goals as goal
use Rattle.nearest.proofs.nearest.Goals.{After-struct_known-1}

pub returns-then-x-eq0 : goal.returns-then-x-eq0
returns-then-x-eq0 c =
    subst (λ (x : ℕ). Nearest c.args.up c.args.unit x (of_bits binary64 0)) (sym c.if-x-eq0.true) (nothing c.args.up c.args.unit c.requires.some)

pub raise-raised-requires : goal.raise-raised-requires
raise-raised-requires c = record { within = c.requires; positive = positive _ c.if-x-eq0.false }
  where
    positive : (x : ℕ) → (x ≡ 0 → ⊥) → 0 < x
    positive x n = omega (arith, n)

pub digits-whole-requires : goal.digits-whole-requires
digits-whole-requires c = c.raise-raised.ensures.scaled

-- the digits are where they belong, behind a field that is no larger than 1,022
in_place : (c : After-struct_known-1) → Placed c.raise-raised.result.field c.digits-whole.result
in_place c = placed _ _ _ _ _ c.raise-raised.ensures c.digits-whole.ensures

pub overflow_mul-result : goal.overflow_mul-result
overflow_mul-result c = omega (arith, under _ _ (in_place ((goal.at.overflow_mul-result c).After-struct_known-1)))

pub overflow_add-result : goal.overflow_add-result
overflow_add-result c = omega (arith, under _ _ (in_place ((goal.at.overflow_add-result c).After-struct_known-1)))

pub float_from_bits-result : goal.float_from_bits-result
float_from_bits-result c = defined _ _ (in_place ((goal.at.float_from_bits-result c).After-struct_known-1))

pub returns : goal.returns
returns c = nearest-of _ _ _ _ _ c.raise-raised.ensures c.digits-whole.ensures
