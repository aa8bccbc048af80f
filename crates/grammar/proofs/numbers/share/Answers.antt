-- `numbers::share` meets its contract: a decimal times the unit fits. Assumes nothing.
use mathlib.Core.Path.{sym, ap, ◌∙◌}
use Prim.Native.Nat.{◌*◌}
use native.Mathlib.Nat.{mul-le-mul_left}
use Rattle.units.proofs.Laws.{whole-most}
use Rattle.grammar.proofs.Parts.{share-none, share-whole, share-between}
use native.Mathlib.Omega.{arith}
use Rattle.grammar.proofs.numbers.share.Goals as goal

pub returns-then-billionths-eq-NONE : goal.returns-then-billionths-eq-NONE
returns-then-billionths-eq-NONE c = sym (share-none _ _ c.if-billionths-eq-NONE.true)

pub overflow_mul-all : goal.overflow_mul-all
overflow_mul-all c =
    let u = rw (← c.whole.ensures) at (whole-most c.is_decimal.result) in omega (arith, mul-le-mul_left c.args.billionths u, c.requires)

pub returns-then-all-eq0 : goal.returns-then-all-eq0
returns-then-all-eq0 c =
    sym (share-whole _ _ c.if-billionths-eq-NONE.false _ (ap (λ u. c.args.billionths * u) (c.whole.ensures ∙ c.is_decimal.ensures)) c.if-all-eq0.true)

pub overflow_add-result-2 : goal.overflow_add-result-2
overflow_add-result-2 c =
    let u = rw (← c.whole.ensures) at (whole-most c.is_decimal.result) in omega (arith, mul-le-mul_left c.args.billionths u, c.requires)

pub returns : goal.returns
returns c =
    sym (share-between _ _ c.if-billionths-eq-NONE.false _ (ap (λ u. c.args.billionths * u) (c.whole.ensures ∙ c.is_decimal.ensures)) c.if-all-eq0.false)
