-- `fan_failed` meets its contract: 1 shifted to a fan's bit loses nothing. Assumes nothing.
use mathlib.Core.Path.{◌≡◌, ap, ◌∙◌}
use Prim.Native.Nat.{◌*◌, ◌-◌, ◌^◌}
use native.Mathlib.Omega.{arith}
use lib.Bits.{bit_or}
use lib.Pow.{shl_exact}
use Rattle.states.specs.States.{fan_failed}
use borrow.Author.Rules.{rules}
use Rattle.states.proofs.fan_failed.Goals as goal

pub returns : goal.returns
unfolding fan_failed
returns c =
    let k = c.args.fan - 1 in
    let one : 1 * 2 ^ k ≡ 2 ^ k = omega arith in
    ap (bit_or c.args.state) (shl_exact {a = 1} 1 k 64 (omega arith) (omega (arith, c.requires)) ∙ one)
