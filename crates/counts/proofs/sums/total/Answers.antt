-- `total` adds up the first k cells of a row. Assumes nothing.
use mathlib.Core.Path.{◌≡◌, refl, ◌∙◌}
use mathlib.Core.List.{List}
use Prim.Native.Nat.{ℕ, zero, suc, ◌+◌, ◌-◌, ◌≤◌}
use native.Mathlib.Omega.{arith}
use lib.ListN.{length, get_or, drop, take, length-drop}
use Rattle.std.specs.List.{sum}
use Rattle.std.proofs.lemmas.List.{get_or-drop}
use Rattle.std.proofs.lemmas.List.Sums.{sum_by_more}
use Rattle.rules.specs.Below.{sum_below}
use Rattle.counts.proofs.sums.total.Goals as goal

cells : (t : List ℕ) (from n : ℕ) → from + n ≤ length t → sum (take n (drop from t)) ≡ sum_below n (λ s. get_or t (from + s) 0)
unfolding sum_below
cells t from zero l = refl
cells t from (suc n) l =
    let e : suc n ≡ n + 1 = omega arith in
    rw e (sum_by_more (λ x. x) (drop from t) n 0 (omega (arith, length-drop from t)) ∙ rw (get_or-drop from t n 0, cells t from n (omega arith)))

pub added-requires : goal.added-requires
added-requires c =
    let e : c.args.from + c.args.k - c.args.from ≡ c.args.k = omega arith in
    rw (e, cells c.args.table.now c.args.from c.args.k (omega (arith, c.requires.long, c.requires.small))) c.requires.fits

pub returns : goal.returns
returns c =
    let e : c.args.from + c.args.k - c.args.from ≡ c.args.k = omega arith in
    rw (e, cells c.args.table.now c.args.from c.args.k (omega (arith, c.requires.long, c.requires.small))) at c.added.ensures
