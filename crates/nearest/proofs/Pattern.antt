-- The 64 bits whose exponent's field and digits are added up spell the digits times a power of two, also where the digits carry into the field. Assumes
-- nothing.
use mathlib.Core.Path.{◌≡◌, sym, ap, ◌∙◌, subst}
use mathlib.Core.Bool.{Bool, false, not}
use mathlib.Core.Logic.{◌⊎◌, inl, inr}
use Prim.Native.Nat.{ℕ, suc, ◌+◌, ◌-◌, ◌*◌, ◌/◌, ◌%◌, ◌^◌, ◌≤◌, ◌<◌}
use native.Mathlib.Nat.{mod-eq_of_lt, eq-or-lt_of_le, lt_of_le_of_lt, le_trans, pow-suc}
use native.Mathlib.Omega.{arith}
use borrow.Author.Tests.{lt-leb, le-ltb}
use lib.Arith.{digits_div, digits_mod}
use lib.Dec.{T, ltb, lit<, lit≤}
use lib.Ieee.{binary64, of_bits, nan_bits}
use lib.Ieee.Bits.{to_bits-of_bits, nan_bits_is, nan_bits_above}
use Rattle.rules.specs.Doubles.{sign, exponent, fraction, spelt, own}
use Rattle.doubles.specs.Floats.{bits}

-- 2^52
abbrev pub first : ℕ
first = 4503599627370496

-- the field of the largest of these doubles
abbrev pub most_field : ℕ
most_field = 1022

pub record Placed (field q : ℕ) : Type 0 where
  pub small : field ≤ most_field
  pub least : first ≤ q
  pub most : q ≤ 2 * first

-- the fields, where a first digit stands before the others
at_fields : (e t : ℕ) → e ≤ 1023 → t < first → own (suc e * first + t) ≡ (first + t) * 2 ^ e
unfolding own spelt
at_fields e t l h =
    let b = suc e * first + t in
    let whole : b % 2 ^ 63 ≡ b = mod-eq_of_lt (omega arith) in
    let x : exponent b ≡ suc e = ap (λ (z : ℕ). z / first) whole ∙ digits_div (suc e) h in
    let f : fraction b ≡ t = digits_mod (suc e) h in
    ap (λ (z : ℕ). spelt z (fraction b)) x ∙ ap (λ (z : ℕ). spelt (suc e) z) f

pub spells : (field q : ℕ) → Placed field q → own (field * first + q) ≡ q * 2 ^ field
spells field q p = go (eq-or-lt_of_le p.most)
  where
    together : (f t : ℕ) → f * first + (first + t) ≡ suc f * first + t
    together f t = omega arith

    carried : (f : ℕ) → f * first + 2 * first ≡ suc (suc f) * first + 0
    carried f = omega arith

    twice : (p : ℕ) → (first + 0) * (p * 2) ≡ 2 * first * p
    twice p = omega arith

    go : (q ≡ 2 * first) ⊎ (q < 2 * first) → own (field * first + q) ≡ q * 2 ^ field
    go (inl e) =
        rw e (ap own (carried field) ∙ at_fields (suc field) 0 (omega (arith, p.small)) (lit< tt) ∙ ap (λ (z : ℕ). (first + 0) * z) (pow-suc 2 field) ∙ twice (2 ^ field))
    go (inr l) =
        let t = q - first in
        let e : q ≡ first + t = omega (arith, p.least) in
        ap (λ (z : ℕ). own (field * first + z)) e ∙ ap own (together field t) ∙ at_fields field t (omega (arith, p.small)) (omega (arith, p.least, l))
        ∙ ap (λ (z : ℕ). z * 2 ^ field) (sym e)

pub under : (field q : ℕ) → Placed field q → field * first + q ≤ 1024 * first
under field q p = omega (arith, p.small, p.most)

pub no_sign : (field q : ℕ) → Placed field q → sign (field * first + q) ≡ false
no_sign field q p = lt-leb _ _ (lt_of_le_of_lt (under field q p) (lit< tt))

-- all ones is 2047, which is far above
pub no_nan : (field q : ℕ) → Placed field q → nan_bits binary64 (field * first + q) ≡ false
no_nan field q p =
    let b = field * first + q in
    let whole : b % 2 ^ 63 ≡ b = mod-eq_of_lt (lt_of_le_of_lt (under field q p) (lit< tt)) in
    nan_bits_above binary64 b ∙ ap (λ (z : ℕ). ltb (2047 * first) z) whole ∙ not-above b (under field q p)
  where
    not-above : (b : ℕ) → b ≤ 1024 * first → ltb (2047 * first) b ≡ false
    not-above b l = le-ltb _ _ (le_trans l (lit≤ tt))

pub defined : (field q : ℕ) → Placed field q → T (not (nan_bits binary64 (field * first + q)))
defined field q p = subst (λ (b : Bool). T (not b)) (sym (no_nan field q p)) tt

pub bits_back : (field q : ℕ) → Placed field q → bits (of_bits binary64 (field * first + q)) ≡ field * first + q
bits_back field q p =
    let b = field * first + q in
    to_bits-of_bits binary64 b (lt_of_le_of_lt (under field q p) (lit< tt)) (subst (λ (z : Bool). T (not z)) (nan_bits_is binary64 b) (defined field q p))
