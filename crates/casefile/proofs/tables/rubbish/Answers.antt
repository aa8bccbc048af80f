-- `tables::rubbish` meets its contract: the table so far has the numbers after the seed in its first k cells. Assumes nothing.
use Rattle.std.proofs.Common.{◌≡◌, ℕ, ◌+◌, ◌*◌, ◌%◌, ◌^◌, sym, refl, ap, ◌∙◌, add-one}
use native.Mathlib.Nat.{mod-add-mod}
use Rattle.casefile.specs.Tables.{factor, step, rubbish_at}
use Rattle.casefile.proofs.Beginning.{begins-none, begins-more}
use Rattle.casefile.proofs.tables.rubbish.Goals as goal

first : (seed : ℕ) → seed ≡ rubbish_at seed 0
unfolding rubbish_at
first seed = refl

next : (seed k x y z : ℕ) → x ≡ rubbish_at seed k → y ≡ x * factor % 2 ^ 64 → z ≡ (y + step) % 2 ^ 64
    → z ≡ rubbish_at seed (k + 1)
unfolding rubbish_at
next seed k x y z p q r =
    r
    ∙ ap (λ v. (v + step) % 2 ^ 64) q
    ∙ mod-add-mod (x * factor) (2 ^ 64) step
    ∙ ap (λ v. (v * factor + step) % 2 ^ 64) p
    ∙ ap (rubbish_at seed) (sym (add-one k))

pub loop-cell-init : goal.loop-cell-init
loop-cell-init c = (first _, begins-none _ _)

pub loop-cell-preserved : goal.loop-cell-preserved
loop-cell-preserved c =
    let e = next c.args.seed c.loop-cell.cell-index c.loop-cell.x _ _ c.loop-cell.invariant.0 refl refl in
    (e, begins-more c.loop-cell.invariant.1 _ c.loop-cell-test.true e)
