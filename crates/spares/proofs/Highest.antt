-- What the highest of so many lows is: none that counts is above it, and it is above nothing that they all stay within. Each by induction on how many there are. Assumes nothing.
use mathlib.Core.Path.{◌≡◌, refl, ap, ap₂}
use mathlib.Core.Bool.{Bool, true, false, cond}
use Prim.Native.Nat.{ℕ, zero, suc, ◌≤◌, ◌<◌, max}
use native.Mathlib.Decide.{dec_le}
use native.Mathlib.Nat.{le_trans, le-max_left, le-max_right}
use native.Mathlib.Omega.{arith}
use Rattle.spares.specs.Highest.{highest}

pub high-most : (low : ℕ → ℕ) (counts : ℕ → Bool) (n i : ℕ) → i < n → counts i ≡ true → low i ≤ highest low counts n
unfolding highest
high-most low counts zero i l e = absurd (omega arith)
high-most low counts (suc n) i l e = go (λ h. high-most low counts n i h e) (dec_le (suc i) n)
  where
    go : (suc i ≤ n → low i ≤ highest low counts n) → Dec (suc i ≤ n) → low i ≤ max (highest low counts n) (cond (counts n) (low n) 0)
    go before (yes h) = le_trans (before h) (le-max_left (highest low counts n) (cond (counts n) (low n) 0))
    go before (no h) =
        let at : i ≡ n = omega arith in
        let counted : low i ≡ cond (counts n) (low n) 0 = rw (← at, e) in
        rw counted (le-max_right (highest low counts n) (cond (counts n) (low n) 0))

pub highest-within : (most : ℕ) (low : ℕ → ℕ) (counts : ℕ → Bool) (n : ℕ) → ((i : ℕ) → i < n → counts i ≡ true → low i ≤ most) → highest low counts n ≤ most
unfolding highest
highest-within most low counts zero h = omega arith
highest-within most low counts (suc n) h = omega (arith, highest-within most low counts n (λ i l. h i (omega arith)), one (counts n) refl)
  where
    one : (b : Bool) → counts n ≡ b → cond b (low n) 0 ≤ most
    one true e = h n (omega arith) e
    one false e = omega arith

pub highest-same : (low : ℕ → ℕ) (counts counts' : ℕ → Bool) (n : ℕ) → ((i : ℕ) → i < n → counts i ≡ counts' i) → highest low counts n ≡ highest low counts' n
unfolding highest
highest-same low counts counts' zero h = refl
highest-same low counts counts' (suc n) h =
    ap₂ max (highest-same low counts counts' n (λ i l. h i (omega arith))) (ap (λ b. cond b (low n) 0) (h n (omega arith)))
