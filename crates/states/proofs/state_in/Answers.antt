-- `state_in` meets its contract: a mask of low ones keeps the remainder. Assumes nothing.
use mathlib.Core.Path.{◌≡◌, ap, ◌∙◌}
use Prim.Native.Nat.{suc, ◌+◌, ◌-◌, ◌/◌, ◌%◌, ◌^◌}
use native.Mathlib.Omega.{arith}
use lib.Bits.{bit_and, and_mask}
use Rattle.verdict.proofs.Windows.{ones-shifted}
use borrow.Author.Rules.{rules}
use Rattle.states.proofs.state_in.Goals as goal

pub returns : goal.returns
returns c =
    let size = c.args.b + 1 - c.args.a in
    let above = c.args.state / 2 ^ (c.args.a - 1) in
    let same : size ≡ suc c.args.b - c.args.a = omega arith in
    ap (bit_and above) (ones-shifted size (omega (arith, c.requires))) ∙ and_mask above size ∙ ap (λ k. above % 2 ^ k) same
