-- `verdict::weighed` meets its contract: the sum so far is what is down of the components passed. Assumes nothing.
use mathlib.Core.Path.{◌≡◌, refl, sym, ap, ◌∙◌}
use mathlib.Core.Bool.{cond}
use mathlib.Core.List.{List}
use Prim.Native.Nat.{ℕ, ◌+◌, ◌*◌}
use native.Mathlib.Omega.{arith}
use native.Mathlib.Numerals.{add-one}
use lib.ListN.{get_or}
use Rattle.rules.specs.Below.{sum_below}
use Rattle.rules.specs.State.{number_of, down}
use Rattle.rules.specs.Verdict.{weight_down}
use Rattle.verdict.proofs.Windows.{weight-down, weight-most}
use Rattle.verdict.proofs.weighed.Goals as goal

none : (ws : List ℕ) (w : ℕ) → weight_down 0 ws w ≡ 0
unfolding weight_down sum_below
none ws w = refl

next : (i : ℕ) (ws : List ℕ) (w : ℕ) → weight_down (i + 1) ws w ≡ weight_down i ws w + cond (down i w) (get_or ws i 0) 0
unfolding weight_down sum_below number_of
next i ws w = rw (add-one i)

pub loop-i-init : goal.loop-i-init
loop-i-init c = (omega arith, sym (none _ _))

pub loop-i-preserved : goal.loop-i-preserved
loop-i-preserved c =
    let i = c.loop-i.i in
    let weight = get_or c.args.weights.now i 0 in
    let term : c.ones_in.result * weight ≡ cond (down i c.args.w) weight 0 = ap (λ x. x * weight) c.ones_in.ensures ∙ weight-down c.args.w i weight in
    omega (
      arith,
      ap (λ x. c.ones_in.result * x) c.from.ensures,
      term,
      weight-most (down i c.args.w) weight,
      c.type_inv.weights i,
      next i c.args.weights.now c.args.w,
    )
