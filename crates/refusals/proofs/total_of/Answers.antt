-- `refusals::total_of` meets its contract: the sum so far and the total of the weights not yet read make the whole total. Assumes nothing.
use mathlib.Core.Path.{◌≡◌}
use mathlib.Core.List.{List}
use Prim.Native.Nat.{ℕ, ◌+◌, ◌≤◌, ◌<◌}
use native.Mathlib.Omega.{arith}
use native.Mathlib.Numerals.{add-one}
use lib.ListN.{length, drop, get_or, drop_of_length-le}
use lib.Seq.{drop-cons}
use Rattle.rules.specs.Below.{total}
use Rattle.refusals.proofs.total_of.Goals as goal

next : (ws : List ℕ) (i : ℕ) → i < length ws → total (drop i ws) ≡ get_or ws i 0 + total (drop (i + 1) ws)
unfolding total
next ws i l = rw (add-one i, drop-cons ws i 0 l)

done : (ws : List ℕ) (i : ℕ) → length ws ≤ i → total (drop i ws) ≡ 0
unfolding total
done ws i l = rw (drop_of_length-le ws l)

pub loop-weight-preserved : goal.loop-weight-preserved
loop-weight-preserved c =
    let i = c.loop-weight.weight-index in
    let fits = c.type_inv.weights i in
    omega (arith, c.from-sum.ensures, fits, next c.args.weights.now i c.loop-weight-test.true)

pub returns : goal.returns
returns c = omega (arith, done c.args.weights.now c.loop-weight.weight-index c.loop-weight-test.false)
