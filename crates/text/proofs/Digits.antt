-- The digits that `io::decimal` writes, the fewest that hold a number, are the number's decimal digits, at most 20, and a
-- signed number has a minus besides. Assumes nothing.
use mathlib.Core.Path.{◌≡◌, ap}
use mathlib.Core.Bool.{Bool, true, false, cond}
use mathlib.Core.List.{[], ◌∷◌, ◌++◌}
use Prim.Native.Nat.{ℕ, zero, suc, ◌+◌, ◌-◌, ◌/◌, ◌%◌, ◌^◌, ◌≤◌, ◌<◌}
use native.Mathlib.Nat.{one-le-pow, pow-le-pow_right}
use native.Mathlib.Decide.{dec_le}
use native.Mathlib.Omega.{arith}
use lib.Dec.{ltb}
use lib.IntN.{ℤ, pos, negsuc}
use lib.ListN.{length, length-append}
use borrow.Author.Tests.{lt-ltb, le-ltb}
use Rattle.io.specs.Digits.{last_digits, IsDigitCount}
use Rattle.text.specs.Decimal.{text, digits_in, most_digits, decimal, signed_digits, signed}

-- by one digit: the number without its last one has one fewer
digits_are : (most k n : ℕ) → IsDigitCount 10 1 n (suc k) → k < most → last_digits 10 (suc k) n ≡ digits_in most n
unfolding digits_in
digits_are zero k n f l = absurd (omega arith)
digits_are (suc most) zero n f l =
    let small : n < 10 = omega (arith, f.1) in
    let last : n % 10 ≡ n = omega arith in
    rw (last, lt-ltb n 10 small)
digits_are (suc most) (suc k) n f l =
    let e : suc (suc k) - 1 ≡ suc k = omega arith in
    let large : 10 ^ suc k ≤ n = rw e at (f.2 (omega arith)) in
    let some : 1 ≤ 10 ^ k = one-le-pow k 10 (omega arith) in
    let d : suc k - 1 ≡ k = omega arith in
    let fewer : IsDigitCount 10 1 (n / 10) (suc k) = (omega arith, omega (arith, f.1), λ h. rw d (omega arith)) in
    let last : n % 10 < 10 = omega arith in
    rw (le-ltb n 10 (omega arith), lt-ltb (n % 10) 10 last)
    (ap (λ xs. xs ++ ((48 + n % 10) ∷ [])) (digits_are most k (n / 10) fewer (omega arith)))

pub fewest-decimal : (n k : ℕ) → n < 2 ^ 64 → IsDigitCount 10 1 n k → last_digits 10 k n ≡ decimal n
fewest-decimal n zero h f = absurd (omega (arith, f.0))
fewest-decimal n (suc zero) h f = digits_are most_digits 0 n f (omega arith)
fewest-decimal n (suc (suc k)) h f =
    elim (dec_le (suc (suc k)) most_digits) [
      | yes l ↦ digits_are most_digits (suc k) n f (omega arith)
      | no g ↦
          let e : suc (suc k) - 1 ≡ suc k = omega arith in
          let large : 10 ^ suc k ≤ n = rw e at (f.2 (omega arith)) in
          let more : 10 ^ most_digits ≤ 10 ^ suc k = pow-le-pow_right (omega arith) {i = most_digits} {j = suc k} (omega arith) in
          absurd (omega arith)
    ]

-- no more digits than asked for
digits-short : (most n : ℕ) → length (digits_in most n) ≤ most
unfolding digits_in
digits-short zero n = omega arith
digits-short (suc most) n = go (ltb n 10) (digits-short most (n / 10))
  where
    go : (b : Bool) → length (digits_in most (n / 10)) ≤ most → length (cond b ((48 + n) ∷ []) (digits_in most (n / 10) ++ ((48 + n % 10) ∷ []))) ≤ suc most
    go true h = omega arith
    go false h = simp length-append (omega arith)

pub decimal-short : (n : ℕ) → length (decimal n) ≤ most_digits
decimal-short n = digits-short most_digits n

pub signed-short : (z : ℤ) → length (signed z) ≤ signed_digits
signed-short (pos n) = omega (arith, decimal-short n)
signed-short (negsuc n) = omega (arith, length-append (text "-") (decimal (suc n)), decimal-short (suc n))
