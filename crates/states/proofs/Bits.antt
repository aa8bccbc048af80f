-- The bits of a state of a deck: one more fits above those below it, and what a stretch sees at a place is the deck's own bit there. Assumes nothing.
use mathlib.Core.Path.{◌≡◌, ap, ◌∙◌}
use mathlib.Core.Bool.{Bool, true, false, cond}
use Prim.Native.Nat.{ℕ, suc, ◌+◌, ◌*◌, ◌-◌, ◌/◌, ◌%◌, ◌^◌, ◌<◌}
use native.Mathlib.Omega.{arith}
use native.Mathlib.Nat.{pow-suc}
use lib.Dec.{eqb}
use lib.Pow.{shr-shr, field, mod-mod-pow}
use Rattle.rules.specs.State.{down}
use Rattle.states.specs.States.{state_in}

pub more-bit : (b : Bool) (i below : ℕ) → below < 2 ^ i → cond b (1 * 2 ^ i) 0 + below < 2 ^ suc i
more-bit true i below h = rw (pow-suc 2 i) (omega arith)
more-bit false i below h = rw (pow-suc 2 i) (omega arith)

-- component i + 1 of the stretch is fan a + i
pub seen-fan : (a b state i : ℕ) → i < suc b - a → down i (state_in a b state) ≡ down (a - 1 + i) state
seen-fan a b state i h =
    let above = state / 2 ^ (a - 1) in
    let rest = suc b - a - i - 1 in
    let size : suc b - a ≡ rest + 1 + i = omega arith in
    ap (λ x. eqb (x % 2) 1)
    (ap (λ k. above % 2 ^ k / 2 ^ i) size ∙ field above (rest + 1) i)
    ∙ ap (λ x. eqb x 1) (mod-mod-pow (above / 2 ^ i) rest 1 ∙ ap (λ x. x % 2) (shr-shr state (a - 1) i))
