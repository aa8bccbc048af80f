-- The state word less its lowest bits: the last components' states are its lowest bits, and a window's ones are counted there. Assumes nothing.
use mathlib.Core.Path.{◌≡◌, sym, ap, ◌∙◌}
use Prim.Native.Nat.{ℕ, suc, ◌+◌, ◌-◌, ◌*◌, ◌/◌, ◌%◌, ◌^◌, ◌≤◌, ◌<◌}
use native.Mathlib.Omega.{arith}
use native.Mathlib.Nat.{mod-lt, mod-eq_of_lt}
use native.Mathlib.Numerals.{add-one}
use lib.Count.{ones, ones_cat}
use lib.Pow.{pow_pos, shr-shr, shr_lt, shr_le, split, mod-pow-add, mod-mod-pow}
use Rattle.rules.specs.State.{down, window, held_in}
use Rattle.rules.proofs.Bits.{held-ones}
use Rattle.rules.proofs.Sums.{held_same}

-- the states of s components, and one component more: those of s + 1
pub grown : (s i w : ℕ) → w / 2 ^ i % 2 ^ suc s ≡ 2 * (w / 2 ^ suc i % 2 ^ s) + w / 2 ^ i % 2
grown s i w = rw (← add-one s, mod-pow-add (w / 2 ^ i) s 1, ← add-one i, ← shr-shr w i 1) (omega arith)

-- of s states the last r
pub lowest : (s r x : ℕ) → r ≤ s → x % 2 ^ s % 2 ^ r ≡ x % 2 ^ r
lowest s r x l =
    let e : s ≡ (s - r) + r = omega arith in
    rw e (mod-mod-pow x (s - r) r)

-- a component's state is the lowest bit of what stands from it on
down-shift : (a d w : ℕ) → down d (w / 2 ^ a) ≡ down (a + d) w
down-shift a d w = rw (shr-shr w a d)

-- the window from component a + 1 on, on the line
pub window-ones : (n a r w : ℕ) → a + r ≤ n → held_in n a w r ≡ ones (w / 2 ^ a % 2 ^ r)
window-ones n a r w l =
    held_same (window n a w) (λ d. down d (w / 2 ^ a)) r
    (λ d h. let m : (a + d) % n ≡ a + d = mod-eq_of_lt (omega arith) in rw m (sym (down-shift a d w)))
    ∙ held-ones (w / 2 ^ a) r

-- the ones above the lowest j bits are among the ones
ones-shift : (x j : ℕ) → ones (x / 2 ^ j) ≤ ones x
ones-shift x j = omega (arith, ones_cat j (x / 2 ^ j) (x % 2 ^ j) (mod-lt x (pow_pos j)), ap ones (split x j))

-- a window that hangs over the end is part of the last one that does not
pub hangs : (n a r w : ℕ) → w < 2 ^ n → r ≤ n → n ≤ a + r → ones (w / 2 ^ a % 2 ^ r) ≤ ones (w / 2 ^ (n - r) % 2 ^ r)
hangs n a r w small fits over =
    let j = a - (n - r) in
    let e : a ≡ (n - r) + j = omega arith in
    let s : n ≡ r + (n - r) = omega arith in
    let x = w / 2 ^ (n - r) in
    let b : x < 2 ^ r = shr_lt r (n - r) (rw s at small) in
    let c : x / 2 ^ j < 2 ^ r = omega (arith, b, shr_le x j) in
    rw (e, ← shr-shr w (n - r) j, mod-eq_of_lt c, mod-eq_of_lt b) (ones-shift x j)
