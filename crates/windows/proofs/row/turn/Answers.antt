-- `turn` cuts the lists to what can be reached and works them one by one. Assumes nothing.
use mathlib.Core.Path.{◌≡◌, ap, ◌∙◌}
use Prim.Native.Nat.{ℕ, suc, ◌+◌, ◌-◌, ◌*◌, ◌%◌, ◌^◌, ◌≤◌, ◌<◌}
use native.Mathlib.Omega.{arith}
use native.Mathlib.Nat.{one-mul}
use native.Mathlib.Numerals.{add-one}
use lib.Pow.{shl_exact}
use Rattle.places.proofs.Cells.{kept_trans, side-near}
use Rattle.windows.proofs.Levels.{listables, midway}
use Rattle.windows.proofs.row.turn.Goals as goal

-- one bit shifted up by the components left
shifted : {n left : ℕ} → n ≤ 64 → left < n → 1 * 2 ^ (n - (left + 1)) % 2 ^ 64 ≡ 2 ^ (n - suc left)
shifted {n} {left} size more =
    shl_exact 1 (n - (left + 1)) 64 (omega arith) (omega arith) ∙ one-mul (2 ^ (n - (left + 1))) ∙ ap (λ x. 2 ^ (n - x)) (add-one left)

pub trim_all-requires : goal.trim_all-requires
trim_all-requires c =
    listables c.requires.level c.requires.more

pub sweep-requires : goal.sweep-requires
sweep-requires c =
    let size = shifted c.requires.level.list.size c.requires.more in
    record { ps = _; survival = _; i = _; midway = midway c.requires.level c.requires.more size c.trim_all.ensures c.chance-p.ensures }

pub overflow_sub-result : goal.overflow_sub-result
overflow_sub-result c =
    omega (arith, side-near c.requires.level.side)

pub returns : goal.returns
returns c =
    let size = shifted c.requires.level.list.size c.requires.more in record {
      raised = λ ps level. record {
        level = rw add-one (c.sweep.ensures.level ps _ _ (midway level c.requires.more size c.trim_all.ensures c.chance-p.ensures));
        is = add-one _;
      };
      kept = kept_trans c.trim_all.ensures.kept c.sweep.ensures.kept;
    }
