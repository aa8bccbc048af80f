-- The bits of a state word: the top one clear or set, what stands above those that are read, and the number of ones as a count of places.
-- Assumes nothing.
use mathlib.Core.Path.{◌≡◌, refl, ◌∙◌}
use mathlib.Core.Bool.{true, false, cond}
use Prim.Native.Nat.{ℕ, zero, suc, ◌+◌, ◌*◌, ◌/◌, ◌%◌, ◌^◌, ◌<◌}
use native.Mathlib.Omega.{arith}
use native.Mathlib.Nat.{pow-suc, div-eq_of_lt, mul-add-div_right, mod-lt, mod-one, mod-eq_of_lt}
use native.Mathlib.Numerals.{one-add}
use lib.Arith.{digits_div}
use lib.Dec.{eqb}
use lib.Count.{ones, ones_cat}
use lib.Pow.{pow_pos, mod-pow-add}
use Rattle.rules.specs.Below.{held}
use Rattle.rules.specs.State.{down}

pub down-low : (i w : ℕ) → w < 2 ^ i → down i w ≡ false
down-low i w h = rw (div-eq_of_lt h)

pub down-high : (i w : ℕ) → w < 2 ^ i → down i (1 * 2 ^ i + w) ≡ true
down-high i w h = rw (digits_div 1 h)

pub shift : (a i : ℕ) → a * 2 ^ suc i ≡ a * 2 * 2 ^ i
shift a i = rw pow-suc (omega arith)

pub bit-above : (a i w : ℕ) → (a * 2 ^ suc i + w) / 2 ^ i % 2 ≡ w / 2 ^ i % 2
bit-above a i w = rw (shift a i, mul-add-div_right (pow_pos i) (a * 2) w) (omega arith)

pub ones-high : (i w : ℕ) → w < 2 ^ i → ones (1 * 2 ^ i + w) ≡ suc (ones w)
unfolding ones
ones-high i w h = ones_cat i 1 w h ∙ one-add (ones w)

one_bit : (a : ℕ) → a < 2 → ones a ≡ cond (eqb a 1) 1 0
unfolding ones
one_bit zero h = refl
one_bit (suc zero) h = refl
one_bit (suc (suc a)) h = absurd (omega arith)

-- the ones among the lowest k bits are the places below k that have failed
pub held-ones : (w k : ℕ) → held (λ d. down d w) k ≡ ones (w % 2 ^ k)
unfolding held ones
held-ones w zero = rw mod-one
held-ones w (suc k) =
    rw (held-ones w k, ← one-add k, mod-pow-add w 1 k, ones_cat k (w / 2 ^ k % 2) (w % 2 ^ k) (mod-lt w (pow_pos k)))
    (omega (arith, one_bit (w / 2 ^ k % 2) (omega arith)))

pub ones-held : (w n : ℕ) → w < 2 ^ n → ones w ≡ held (λ d. down d w) n
ones-held w n small = rw (held-ones w n, mod-eq_of_lt small)
