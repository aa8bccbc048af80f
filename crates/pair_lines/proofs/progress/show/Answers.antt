-- `progress::show` meets its contract: the number of pairs is one of 64 bits. Assumes nothing.
use borrow.Author.Rules.{rules}
use Prim.Native.Nat.{◌-◌, ◌≤◌}
use native.Mathlib.Nat.{mul-le-mul}
use native.Mathlib.Omega.{arith}
use Rattle.pair_lines.proofs.progress.show.Goals as goal

pub overflow_mul-size : goal.overflow_mul-size
overflow_mul-size c =
    let few : c.args.size ≤ 64 = c.requires.1 in
    let fewer : c.args.size - 1 ≤ 64 = omega arith in
    omega (arith, mul-le-mul few fewer)
