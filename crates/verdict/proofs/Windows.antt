-- What a window holds, as the set bits of the word shifted and masked: one count where it ends by n, two where it runs past n, since above
-- bit n - 1 the word is clear. Assumes nothing.
use mathlib.Core.Path.{◌≡◌, refl, sym, ap, subst, ◌∙◌}
use mathlib.Core.Logic.{◌↔◌}
use mathlib.Core.Bool.{Bool, true, false, cond}
use Prim.Native.Nat.{ℕ, ◌+◌, ◌-◌, ◌*◌, ◌/◌, ◌%◌, ◌^◌, ◌≤◌, ◌<◌}
use native.Mathlib.Omega.{arith}
use native.Mathlib.Nat.{mod-lt, mod-eq_of_lt, lt_of_lt_of_le, add-zero, le_trans, lt_of_not-le, not-le_of_lt, pow-succ', le-div_iff_mul-le}
use lib.Dec.{leb, ltb}
use borrow.Author.Tests.{leb-true, leb-false, le-leb, lt-leb}
use lib.Count.{ones, ones-le}
use lib.Pow.{pow_pos, pow_mono, shr-shr, shr_lt, high, ones_split, ones_lt}
use Rattle.rules.specs.Below.{held}
use Rattle.rules.specs.State.{down, window, held_in}
use Rattle.rules.specs.Refusal.{high_one}
use Rattle.rules.proofs.Tests.{by-test}
use Rattle.rules.proofs.Sums.{held_same}
use Rattle.rules.proofs.Bits.{held-ones}
use Rattle.rules.proofs.Words.{held-add}
use Rattle.rules.proofs.Windows.{at, turned}

-- the full word shifted down
pub ones-shifted : (width : ℕ) → width ≤ 64 → (2 ^ 64 - 1) / 2 ^ (64 - width) ≡ 2 ^ width - 1
ones-shifted width l =
    let e : 64 ≡ width + (64 - width) = omega arith in
    let s : 2 ^ 64 - 1 ≡ (2 ^ width - 1) * 2 ^ (64 - width) + (2 ^ (64 - width) - 1) =
    ap (λ x. 2 ^ x - 1) e ∙ ones_split width (64 - width) in
    ap (λ x. x / 2 ^ (64 - width)) s ∙ high (2 ^ width - 1) (64 - width) (ones_lt (64 - width))

held-masked : (w a k : ℕ) → held (λ d. down (a + d) w) k ≡ ones (w / 2 ^ a % 2 ^ k)
held-masked w a k = held_same _ _ k (λ d l. rw (shr-shr w a d)) ∙ held-ones (w / 2 ^ a) k

-- a window that ends by n
pub one-count : (n a w width : ℕ) → a + width ≤ n → ones (w / 2 ^ a % 2 ^ width) ≡ held_in n a w width
one-count n a w width fits =
    sym (held_same (window n a w) (λ d. down (a + d) w) width (λ d l. at (λ p. down p w) n (a + d) (a + d) refl (omega arith)) ∙ held-masked w a width)

-- a window that runs past n: the part up to n, and the part from 1 on
pub two-counts : (n a w width : ℕ) → w < 2 ^ n → a < n → width ≤ n → n < a + width
    → ones (w / 2 ^ a % 2 ^ width) + ones (w / 2 ^ 0 % 2 ^ (a + width - n)) ≡ held_in n a w width
two-counts n a w width small l fits past =
    let i = n - a in
    let j = a + width - n in
    let whole : i + j ≡ width = omega arith in
    let room : w < 2 ^ (i + a) = subst (λ x. w < 2 ^ x) (omega arith) small in
    let top : w / 2 ^ a < 2 ^ i = shr_lt i a room in
    let low : held (λ d. window n a w (i + d)) j ≡ ones (w / 2 ^ 0 % 2 ^ j) =
    held_same _ _ j (λ d m. turned (λ p. down p w) n _ (0 + d) (omega arith) (omega arith)) ∙ held-masked w 0 j in
    ap (λ x. ones x + ones (w / 2 ^ 0 % 2 ^ j))
    (mod-eq_of_lt {n = w / 2 ^ a} {m = 2 ^ width} (lt_of_lt_of_le top (pow_mono {i = i} {j = width} (omega arith)))
    ∙ sym (mod-eq_of_lt {n = w / 2 ^ a} {m = 2 ^ i} top))
    ∙ ap (λ x. x + ones (w / 2 ^ 0 % 2 ^ j)) (one-count n a w i (omega arith))
    ∙ ap (λ x. held_in n a w i + x) (sym low)
    ∙ sym (held-add (window n a w) i j)
    ∙ ap (held_in n a w) whole

-- a count of at most 64 bits
pub few : (r x width : ℕ) → r ≡ ones (x % 2 ^ width) → width ≤ 64 → r ≤ 64
few r x width e l = rw e (le_trans (ones-le width _ (mod-lt x (pow_pos width))) l)

-- a failed component's weight: a window of one
pub weight-down : (w i x : ℕ) → ones (w / 2 ^ i % 2 ^ 1) * x ≡ cond (down i w) x 0
unfolding held
weight-down w i x = ap (λ k. k * x) (sym (held-masked w i 1)) ∙ rw (add-zero i) (go (down i w))
  where
    go : (t : Bool) → (0 + cond t 1 0) * x ≡ cond t x 0
    go true = omega arith
    go false = omega arith

pub weight-most : (t : Bool) (x : ℕ) → cond t x 0 ≤ x
weight-most t x = by-test (λ y. y ≤ x) t x 0 (λ _. omega arith) (λ _. omega arith)

-- a one above bit n - 1
leb-same : (a b c d : ℕ) → (a ≤ b → c ≤ d) → (c ≤ d → a ≤ b) → leb a b ≡ leb c d
leb-same a b c d f g = go (leb a b) refl
  where
    go : (t : Bool) → leb a b ≡ t → leb a b ≡ leb c d
    go true e = e ∙ sym (le-leb c d (f (leb-true a b e)))
    go false e = e ∙ sym (lt-leb c d (lt_of_not-le (λ h. not-le_of_lt (leb-false a b e) (g h))))

pub high-shifted : (n w : ℕ) → 1 ≤ n → ltb 1 (w / 2 ^ (n - 1)) ≡ high_one n w
high-shifted n w l =
    let twice : 2 * 2 ^ (n - 1) ≡ 2 ^ n = sym (pow-succ' 2 (n - 1)) ∙ ap (λ x. 2 ^ x) (omega arith) in
    let law : (2 ≤ w / 2 ^ (n - 1)) ↔ (2 * 2 ^ (n - 1) ≤ w) = le-div_iff_mul-le {k = 2 ^ (n - 1)} {x = 2} {y = w} (pow_pos (n - 1)) in
    leb-same 2 (w / 2 ^ (n - 1)) (2 ^ n) w (λ h. rw twice at (law.0 h)) (λ h. law.1 (rw (← twice) at h))
