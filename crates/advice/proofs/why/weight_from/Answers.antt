-- `why::weight_from` meets its contract: the sum so far and what the rest weighs is what all weigh. Assumes nothing.
use mathlib.Core.Path.{◌≡◌, ◌∙◌}
use mathlib.Core.List.{List}
use Prim.Native.Nat.{ℕ, ◌+◌, ◌-◌, ◌≤◌, ◌<◌}
use native.Mathlib.Nat.{add-zero}
use native.Mathlib.Omega.{arith}
use lib.ListN.{length, get_or, take, drop, length-take, length-drop}
use Rattle.std.proofs.lemmas.List.{get_or-drop, get_or-take}
use Rattle.advice.proofs.Scanning.{none-summed, one-summed, all-summed}
use Rattle.advice.proofs.why.weight_from.Goals as goal

-- the part that is gone over
module _ (weights : List ℕ) (from upto : ℕ) (inside : upto ≤ length weights) where
  part-long : length (take (upto - from) (drop from weights)) ≡ upto - from
  part-long = simp (length-take, length-drop) (omega arith)

  part-at : (i : ℕ) → i < upto - from → get_or (take (upto - from) (drop from weights)) i 0 ≡ get_or weights (from + i) 0
  part-at i l = get_or-take (upto - from) (drop from weights) i 0 l ∙ get_or-drop from weights i 0

pub loop-weight-init : goal.loop-weight-init
loop-weight-init c = rw (add-zero c.args.from) (none-summed _ _ _ c.requires.0)

pub loop-weight-preserved : goal.loop-weight-preserved
loop-weight-preserved c =
    let i = c.loop-weight.weight-index in
    let from = c.args.from in
    let weights = c.args.weights.now in
    let within : i < c.args.upto - from = omega (arith, part-long weights from c.args.upto c.requires.1, c.loop-weight-test.true) in
    let is : c.from-sum.result ≡ get_or weights (from + i) 0 = c.from-sum.ensures ∙ part-at weights from c.args.upto c.requires.1 i within in
    let next : from + i + 1 ≡ from + (i + 1) = omega arith in
    let more = one-summed c.loop-weight.invariant (omega (arith, within)) (omega (arith, c.type_inv.weights (from + i))) in
    rw (is, ← next) more

pub returns : goal.returns
returns c =
    all-summed c.loop-weight.invariant (omega (arith, part-long c.args.weights.now c.args.from c.args.upto c.requires.1, c.loop-weight-test.false))
