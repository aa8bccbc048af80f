-- Kind 8: of two patterns one has no more failed than the other, bit by bit. That stays so with one state more, and where it lacks the other does too.
-- Assumes nothing.
use mathlib.Core.Path.{◌≡◌, sym, ◌∙◌}
use mathlib.Core.Bool.{true, false, false≢true}
use mathlib.Core.List.{List}
use Prim.Native.Nat.{ℕ, zero, suc, ◌+◌, ◌-◌, ◌*◌, ◌/◌, ◌%◌, ◌^◌, ◌≤◌, ◌<◌}
use native.Mathlib.Omega.{arith}
use native.Mathlib.Nat.{mod-lt, div-eq_of_lt, lt_of_lt_of_le}
use native.Mathlib.Numerals.{one-add}
use native.Mathlib.Decide.{dec_lt}
use lib.Count.{ones}
use lib.Pow.{pow_pos, pow_mono, shr-shr, field}
use borrow.Author.Tests.{eqb-true, eq-eqb}
use Rattle.rules.specs.declared.Pair.{Pair}
use Rattle.rules.specs.State.{down}
use Rattle.rules.specs.Memory.{lacking_last, lacking_in}
use Rattle.rules.proofs.Bits.{held-ones}
use Rattle.rules.proofs.Words.{held_more}
use Rattle.rules.proofs.Pairs.{too-few-more, any-more}
use Rattle.rules.proofs.Shifted.{lowest}

-- every one of y is a one of x
pub record NoMore (y x : ℕ) : Type 0 where
  pub bit : (d : ℕ) → down d y ≡ true → down d x ≡ true

-- a bit of the lowest s bits
bit-low : (s d x : ℕ) → d < s → down d (x % 2 ^ s) ≡ down d x
bit-low s d x l =
    let e : s ≡ suc (s - suc d) + d = omega arith in
    let j = s - suc d in
    let h : x / 2 ^ d % 2 ^ suc j % 2 ≡ x / 2 ^ d % 2 = lowest (suc j) 1 (x / 2 ^ d) (omega arith) in
    rw (e, field x (suc j) d, h)

bit_high : (s d x : ℕ) → s ≤ d → down d (x % 2 ^ s) ≡ false
bit_high s d x l = rw (div-eq_of_lt (lt_of_lt_of_le (mod-lt x (pow_pos s)) (pow_mono l)))

-- one state more moves the others up
bit-suc : (d x b : ℕ) → b < 2 → down (suc d) (2 * x + b) ≡ down d x
bit-suc d x b l =
    let h : (2 * x + b) / 2 ≡ x = omega arith in
    rw (← one-add d, ← shr-shr (2 * x + b) 1 d, h)

pub no-more-low : (s x : ℕ) → NoMore (x % 2 ^ s) x
no-more-low s x = record { bit = λ d e. go d e (dec_lt d s) }
  where
    go : (d : ℕ) → down d (x % 2 ^ s) ≡ true → Dec (d < s) → down d x ≡ true
    go d e (yes l) = sym (bit-low s d x l) ∙ e
    go d e (no l) = absurd (false≢true (sym (bit_high s d x (omega arith)) ∙ e))

module _ {y x : ℕ} (h : NoMore y x) where
  pub cut : (s : ℕ) → NoMore (y % 2 ^ s) (x % 2 ^ s)
  cut s = record { bit = λ d e. go d e (dec_lt d s) }
    where
      go : (d : ℕ) → down d (y % 2 ^ s) ≡ true → Dec (d < s) → down d (x % 2 ^ s) ≡ true
      go d e (yes l) = bit-low s d x l ∙ h.bit d (sym (bit-low s d y l) ∙ e)
      go d e (no l) = absurd (false≢true (sym (bit_high s d y (omega arith)) ∙ e))

  pub grow : (b c : ℕ) → b ≤ c → c < 2 → NoMore (2 * y + b) (2 * x + c)
  grow b c l m = record { bit = go }
    where
      go : (d : ℕ) → down d (2 * y + b) ≡ true → down d (2 * x + c) ≡ true
      go zero e = eq-eqb ((2 * x + c) / 1 % 2) 1 (omega (arith, eqb-true ((2 * y + b) / 1 % 2) 1 e))
      go (suc d) e = bit-suc d x c m ∙ h.bit d (sym (bit-suc d y b (omega arith)) ∙ e)

  ones-more : (r : ℕ) → ones (y % 2 ^ r) ≤ ones (x % 2 ^ r)
  ones-more r = rw (← held-ones y r, ← held-ones x r) (held_more _ _ r (λ d l. h.bit d))

  pub lacking-more : (ps : List Pair) → lacking_in ps y ≡ true → lacking_in ps x ≡ true
  unfolding lacking_in
  lacking-more ps =
      any-more (lacking_last y) (lacking_last x)
      (λ p. too-few-more p (ones-more p.r)) ps
