-- A float's own value, as its bits spell it, is its value in lib.Ieee: a finite float is its own value over 2^1074, and a float that is v over 2^1074
-- spells v. Assumes nothing.
use Rattle.std.proofs.Common.{◌≡◌, ℕ, zero, suc, ◌+◌, ◌*◌, ◌^◌, ◌<◌, ◌≤◌, Bool, true, false, cond, not, ◌&&◌, ◌||◌, T, eqb, leb, ℤ, sym, refl, ap, ◌∙◌, subst, mod-lt, mul-one, mul_right_comm, arith, le→leb, pow_pos}
use native.Mathlib.Nat.{eq_of_mul-eq-mul_right}
use lib.Ieee.{Float, nan, inf, fin, binary64, up, down, odd, of_fields, of_bits, to_bits, fits, nan_bits, is_nan}
use lib.Ieee.Exact.{HasValue, odd_sign}
use lib.Ieee.Fits.{down_pos}
use lib.Ieee.Scale.{finite}
use lib.Ieee.Bits.{of_bits-to_bits, nan_bits_is}
use Rattle.rules.specs.State.{S}
use Rattle.rules.specs.Doubles.{parts, sign, exponent, fraction, spelt, own, not_aNumber, is_chance}
use Rattle.rules.proofs.Grid.{cell}
use Rattle.doubles.specs.Floats.{bits}

-- ---- the two large numbers, opened

pub cell-pow : cell ≡ 2 ^ 1044
unfolding cell
cell-pow = refl

pub parts-pow : parts ≡ 2 ^ 1074
unfolding parts
parts-pow = refl

-- ---- what three fields spell

fields : (s : Bool) (x t : ℕ) → T (finite (of_fields binary64 s x t)) → HasValue (of_fields binary64 s x t) s (spelt x t) parts
unfolding of_fields spelt parts
fields s zero t h = subst (λ (v : ℕ). HasValue (odd 53 s t 0 1074) s v (2 ^ 1074)) (mul-one t) (odd_sign 53 s t 0 1074)
fields s (suc k) t h = go (eqb (suc k) 2047) (eqb t 0) h
  where
    go : (a b : Bool) → T (finite (cond a (cond b (inf s) nan) (odd 53 s (2 ^ 52 + t) k 1074))) → HasValue (cond a (cond b (inf s) nan) (odd 53 s (2 ^ 52 + t) k 1074)) s ((2 ^ 52 + t) * 2 ^ k) (2 ^ 1074)
    go true true z = absurd z
    go true false z = absurd z
    go false b z = odd_sign 53 s (2 ^ 52 + t) k 1074

of-bits : (b : ℕ) → T (finite (of_bits binary64 b)) → HasValue (of_bits binary64 b) (sign b) (own b) parts
unfolding of_bits own
of-bits b h = fields (sign b) (exponent b) (fraction b) h

-- a finite float is its own value over 2^1074, with the sign of its bits
pub reads : (x : Float) → T (fits binary64 x) → T (finite x) → HasValue x (sign (bits x)) (own (bits x)) parts
reads x h f =
    let e : of_bits binary64 (bits x) ≡ x = of_bits-to_bits binary64 x h in
    subst (λ (v : Float). HasValue v (sign (bits x)) (own (bits x)) parts) e (of-bits (bits x) (subst (λ (v : Float). T (finite v)) (sym e) f))

-- ---- and the other way: a float that is v over 2^1074 spells v

pub record Spells (x : Float) (s : Bool) (v : ℕ) : Type 0 where
  pub signed : sign (bits x) ≡ s
  pub spells : own (bits x) ≡ v

cross : (a d p v w : ℕ) → 0 < d → a * p ≡ v * d → a * p ≡ w * d → v ≡ w
cross a d p v w D h k = eq_of_mul-eq-mul_right d D v w (sym h ∙ k)

pub spelling : (x : Float) (s : Bool) (v : ℕ) → T (fits binary64 x) → HasValue x s v parts → Spells x s v
spelling nan s v h k = absurd k
spelling (inf t) s v h k = absurd k
spelling (fin t m e) s v h k =
    let r = reads (fin t m e) h tt in
    record { signed = sym r.0 ∙ k.0; spells = cross (m * up e) (down e) parts (own (bits (fin t m e))) v (down_pos e) r.1 k.1 }

-- a value by another fraction
pub rescaled : (x : Float) (s : Bool) (a c b d : ℕ) → 0 < c → a * d ≡ b * c → HasValue x s a c → HasValue x s b d
rescaled nan s a c b d p h v = v
rescaled (inf t) s a c b d p h v = v
rescaled (fin t m e) s a c b d p h v = (
  v.0,
  eq_of_mul-eq-mul_right c p (m * up e * d) (b * down e)
      (mul_right_comm (m * up e) d c ∙ ap (λ (z : ℕ). z * d) v.1 ∙ mul_right_comm a (down e) d ∙ ap (λ (z : ℕ). z * down e) h ∙ mul_right_comm b c (down e)),
)

-- ---- own values have at most 53 digits that count

pub record Digits (v : ℕ) : Type 0 where
  pub digits : ℕ
  pub places : ℕ
  pub few : digits < 2 ^ 53
  pub are : v ≡ digits * 2 ^ places

with_lead : (t : ℕ) → t < 2 ^ 52 → 2 ^ 52 + t < 2 ^ 53
with_lead t h = omega arith

without : (t : ℕ) → t < 2 ^ 52 → t < 2 ^ 53
without t h = omega arith

spelt-digits : (x t : ℕ) → t < 2 ^ 52 → Digits (spelt x t)
unfolding spelt
spelt-digits zero t h = record { digits = t; places = 0; few = without t h; are = sym (mul-one t) }
spelt-digits (suc k) t h = record { digits = 2 ^ 52 + t; places = k; few = with_lead t h; are = refl }

pub own-digits : (b : ℕ) → Digits (own b)
unfolding own
own-digits b = spelt-digits (exponent b) (fraction b) (mod-lt b (pow_pos 52))

-- ---- which floats are chances

-- what is no more than 2^30 is neither infinite nor a NaN
pub finite-of : (x : Float) → own (bits x) ≤ parts * S → T (finite x)
unfolding own spelt parts to_bits
finite-of nan h = absurd (le→leb _ _ h)
finite-of (inf true) h = absurd (le→leb _ _ h)
finite-of (inf false) h = absurd (le→leb _ _ h)
finite-of (fin s m e) h = tt

no_nan : (s : Bool) (m : ℕ) (e : ℤ) → T (fits binary64 (fin s m e)) → not_aNumber (bits (fin s m e)) ≡ false
unfolding nan_bits is_nan
no_nan s m e h = nan_bits_is binary64 (bits (fin s m e)) ∙ ap is_nan (of_bits-to_bits binary64 (fin s m e) h)

-- of a finite float
pub chance-is : (s : Bool) (m : ℕ) (e : ℤ) → T (fits binary64 (fin s m e))
    → is_chance (bits (fin s m e)) ≡ ((not s || eqb (own (bits (fin s m e))) 0) && leb (own (bits (fin s m e))) parts)
unfolding is_chance
chance-is s m e h =
    let b = bits (fin s m e) in
    ap (λ (t : Bool). not t && (not (sign b) || eqb (own b) 0) && leb (own b) parts) (no_nan s m e h)
    ∙ ap (λ (t : Bool). (not t || eqb (own b) 0) && leb (own b) parts) (sym (reads (fin s m e) h tt).0)
