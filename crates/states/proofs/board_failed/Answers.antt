-- `board_failed` meets its contract: the state so far is that of the fans passed. Assumes nothing.
use mathlib.Core.Path.{◌≡◌, refl, ap, ap₂, ◌∙◌}
use mathlib.Core.Bool.{cond}
use Prim.Native.Nat.{suc, ◌+◌, ◌*◌, ◌^◌, ◌<◌}
use native.Mathlib.Nat.{add_comm}
use native.Mathlib.Omega.{arith}
use native.Mathlib.Numerals.{add-one}
use lib.ListN.{length}
use lib.Pow.{pow_mono}
use Rattle.rules.specs.State.{number_of}
use Rattle.rules.specs.Boards.{fans_down}
use Rattle.states.specs.States.{board_failed}
use Rattle.states.proofs.Bits.{more-bit}
use Rattle.states.proofs.board_failed.Goals as goal

pub loop-i-init : goal.loop-i-init
unfolding fans_down
loop-i-init c = (omega arith, refl)

pub overflow_add-after : goal.overflow_add-after
overflow_add-after c =
    let sum : c.bit_of-after.result + c.loop-i.after < 2 ^ suc c.loop-i.i = rw c.bit_of-after.ensures (more-bit c.failed_with-failed.result c.loop-i.i c.loop-i.after c.loop-i.invariant.0) in
    omega (arith, sum, pow_mono {i = suc c.loop-i.i} {j = 64} (omega (arith, c.requires)))

pub loop-i-preserved : goal.loop-i-preserved
unfolding fans_down number_of
loop-i-preserved c =
    let sum : c.bit_of-after.result + c.loop-i.after < 2 ^ suc c.loop-i.i = rw c.bit_of-after.ensures (more-bit c.failed_with-failed.result c.loop-i.i c.loop-i.after c.loop-i.invariant.0) in
    let bit = c.bit_of-after.ensures ∙ ap (λ b. cond b (1 * 2 ^ c.loop-i.i) 0) c.failed_with-failed.ensures in (
      rw add-one (omega (arith, sum)),
      rw add-one (add_comm c.loop-i.after c.bit_of-after.result ∙ ap₂ (λ x y. x + y) bit c.loop-i.invariant.1),
    )

pub returns : goal.returns
unfolding board_failed
returns c =
    let e : c.loop-i.i ≡ length c.args.boards.now = omega arith in
    rw e at c.loop-i.invariant.1
