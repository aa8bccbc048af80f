-- What the groups of places mean: every two of a group overlap, and each place that is left out gains surely less than one with the highest lower end. Groups have no place
-- in common, so that no more places are named than there are. Assumes nothing.
use mathlib.Core.Path.{◌≡◌, refl, sym, ◌∙◌}
use mathlib.Core.Bool.{Bool, true, false, not, cond, ◌&&◌, true≢false, false≢true}
use Prim.Native.Nat.{ℕ, zero, suc, ◌+◌, ◌-◌, ◌≤◌, ◌<◌}
use native.Mathlib.Decide.{dec_le}
use native.Mathlib.Omega.{arith}
use lib.Dec.{T, leb, nleb→lt, leb→le}
use lib.IntN.{ℤ, pos, negsuc, sub_ℕ}
use lib.Signed.{◌≤ℤ◌, le_z, le_z_yes}
use borrow.Author.Tests.{le-leb, lt-leb}
use Rattle.rules.specs.Below.{held}
use Rattle.rules.proofs.Tests.{both}
use Rattle.rules.proofs.Sums.{held_same}
use Rattle.rules.proofs.Differences.{by_sign, less-le}
use Rattle.spares.specs.Highest.{highest}
use Rattle.spares.proofs.Highest.{high-most}
use Rattle.spare_lines.specs.Ranks.{Ranked, lower_at, upper_at, leading, reaches, alike, rest, left_after, group_at, gone_after}

-- ---- signed differences compared as sums

leb-same : (x y x' y' : ℕ) → (x ≤ y → x' ≤ y') → (x' ≤ y' → x ≤ y) → leb x y ≡ leb x' y'
leb-same x y x' y' to from = go (dec_le x y)
  where
    go : Dec (x ≤ y) → leb x y ≡ leb x' y'
    go (yes h) = le-leb x y h ∙ sym (le-leb x' y' (to h))
    go (no h) = lt-leb x y (omega arith) ∙ sym (lt-leb x' y' (other (dec_le x' y')))
      where
        other : Dec (x' ≤ y') → y' < x'
        other (yes k) = absurd (h (from k))
        other (no k) = omega arith

pub less-leb : (a b c d : ℕ) → le_z (sub_ℕ a b) (sub_ℕ c d) ≡ leb (a + d) (c + b)
less-leb a b c d =
    by_sign (λ z. le_z z (sub_ℕ c d) ≡ leb (a + d) (c + b)) a b
    (λ l. by_sign (λ z. le_z (negsuc (b - suc a)) z ≡ leb (a + d) (c + b)) c d
    (λ m. leb-same (d - suc c) (b - suc a) (a + d) (c + b) (λ h. omega arith) (λ h. omega arith))
    (λ m. sym (le-leb (a + d) (c + b) (omega arith))))
    (λ l. by_sign (λ z. le_z (pos (a - b)) z ≡ leb (a + d) (c + b)) c d
    (λ m. sym (lt-leb (a + d) (c + b) (omega arith)))
    (λ m. leb-same (a - b) (c - d) (a + d) (c + b) (λ h. omega arith) (λ h. omega arith)))

-- ---- groups

module _ (k : Ranked) (left : ℕ → Bool) where
  -- no lower end is above L
  pub lower-most : (i : ℕ) → i < k.size → left i ≡ true → lower_at k i ≤ℤ leading k left
  lower-most i l e =
      less-le (k.low i) k.before.high (highest k.low left k.size) k.before.high (omega (arith, high-most k.low left k.size i l e))

  -- every two of a group overlap
  pub alike-overlap : (i j : ℕ) → j < k.size → alike k left i ≡ true → alike k left j ≡ true → lower_at k j ≤ℤ upper_at k i
  alike-overlap i j l one two =
      let top = highest k.low left k.size in
      let tested : leb (top + k.before.low) (k.high i + k.before.high) ≡ true
      = sym (less-leb top k.before.high (k.high i) k.before.low) ∙ (both (left i) (reaches k left i) one).1 in
      less-le (k.low j) k.before.high (k.high i) k.before.low
      (omega (arith, leb_yes (top + k.before.low) (k.high i + k.before.high) tested, high-most k.low left k.size j l (both (left j) (reaches k left j) two).0))
    where
      leb_yes : (x y : ℕ) → leb x y ≡ true → x ≤ y
      leb_yes x y e = go (dec_le x y)
        where
          go : Dec (x ≤ y) → x ≤ y
          go (yes h) = h
          go (no h) = absurd (true≢false (sym e ∙ lt-leb x y (omega arith)))

  -- each place left out has its upper end below the lower end of a place with the highest one
  pub left_out : (i j : ℕ) → k.low i ≡ highest k.low left k.size → rest k left j ≡ true → k.high j + k.before.high < k.low i + k.before.low
  left_out i j leads out =
      let top = highest k.low left k.size in
      let tested : leb (top + k.before.low) (k.high j + k.before.high) ≡ false
      = sym (less-leb top k.before.high (k.high j) k.before.low) ∙ turned (reaches k left j) (both (left j) (not (reaches k left j)) out).1 in
      omega (arith, leads, leb_no (top + k.before.low) (k.high j + k.before.high) tested)
    where
      turned : (b : Bool) → not b ≡ true → b ≡ false
      turned true e = absurd (false≢true e)
      turned false e = refl

      leb_no : (x y : ℕ) → leb x y ≡ false → y < x
      leb_no x y e = go (dec_le x y)
        where
          go : Dec (x ≤ y) → y < x
          go (yes h) = absurd (true≢false (sym (le-leb x y h) ∙ e))
          go (no h) = omega arith

-- ---- no more are named than there are

held-parts : (p t : ℕ → Bool) (n : ℕ) → held (λ i. p i && t i) n + held (λ i. p i && not (t i)) n ≡ held p n
unfolding held
held-parts p t zero = refl
held-parts p t (suc n) = omega (arith, held-parts p t n, one (p n) (t n))
  where
    one : (a b : Bool) → cond (a && b) 1 0 + cond (a && not b) 1 0 ≡ cond a 1 0
    one true true = refl
    one true false = refl
    one false b = refl

pub held-most : (p : ℕ → Bool) (n : ℕ) → held p n ≤ n
unfolding held
held-most p zero = omega arith
held-most p (suc n) = omega (arith, held-most p n, one (p n))
  where
    one : (b : Bool) → cond b 1 0 ≤ 1
    one true = omega arith
    one false = omega arith

pub gone-left : (k : Ranked) (r : ℕ) → gone_after k r + held (left_after k r) k.size ≤ k.size
unfolding gone_after left_after
gone-left k zero = omega (arith, held-most (λ i. true) k.size)
gone-left k (suc r) = omega (arith, gone-left k r, held-parts (left_after k r) (reaches k (left_after k r)) k.size)
