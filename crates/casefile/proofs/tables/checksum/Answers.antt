-- `tables::checksum` meets its contract: the sum is what the cells passed come to, modulo 2^64. Assumes nothing.
use Rattle.std.proofs.Common.{◌≡◌, ℕ, ◌+◌, ◌*◌, ◌%◌, ◌^◌, List, get_or, sym, refl, ap, ◌∙◌, add-one}
use native.Mathlib.Nat.{add-mod}
use Rattle.rules.specs.Below.{sum_below}
use Rattle.casefile.specs.Tables.{weighed_sum}
use Rattle.casefile.proofs.tables.checksum.Goals as goal

none : (cells : List ℕ) → 0 ≡ weighed_sum cells 0 % 2 ^ 64
unfolding sum_below
none cells = refl

next : (cells : List ℕ) (i s t : ℕ) → s ≡ weighed_sum cells i % 2 ^ 64 → t ≡ (i + 1) * get_or cells i 0 % 2 ^ 64
    → (s + t) % 2 ^ 64 ≡ weighed_sum cells (i + 1) % 2 ^ 64
unfolding sum_below
next cells i s t p q =
    ap (λ x. (x + t) % 2 ^ 64) p
    ∙ ap (λ y. (weighed_sum cells i % 2 ^ 64 + y) % 2 ^ 64) q
    ∙ sym (add-mod (weighed_sum cells i) ((i + 1) * get_or cells i 0) (2 ^ 64))
    ∙ ap (λ k. weighed_sum cells k % 2 ^ 64) (sym (add-one i))

pub loop-i-init : goal.loop-i-init
loop-i-init c = none c.args.cells.now

pub loop-i-preserved : goal.loop-i-preserved
loop-i-preserved c = next c.args.cells.now c.loop-i.i _ _ c.loop-i.invariant refl
