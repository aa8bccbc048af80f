-- A sign and an own value are spelt by one float only, so any two floats that are x over 2^30 are one. Assumes nothing.
use Rattle.std.proofs.Common.{◌≡◌, ℕ, ◌+◌, ◌-◌, ◌*◌, ◌/◌, ◌^◌, ◌≤◌, Bool, cond, T, ℤ, sym, ap, ◌∙◌, subst, le_trans, le_of_eq, mul-le-mul_right, le_of_mul-le-mul_right, mul-div_cancel, arith, lit<}
use native.Mathlib.Nat.{eq_of_mul-eq-mul_right}
use lib.Ieee.{Float, nan, inf, fin, binary64, up, down, size, to_bits, of_bits, fits}
use lib.Ieee.Fits.{down_pos}
use lib.Ieee.Scale.{finite}
use lib.Ieee.Bits.{of_bits-to_bits}
use Rattle.rules.specs.State.{S}
use Rattle.rules.specs.Doubles.{parts, sign, own}
use Rattle.doubles.specs.Floats.{bits, Over}
use Rattle.doubles.proofs.Reading.{parts-pow, reads, finite-of}

-- the bits, from the sign and the own value
abbrev written : Bool → ℕ → ℕ
written s v = cond s (2 ^ 63) 0 + (size v - 53) * 2 ^ 52 + v / 2 ^ (size v - 53)

at_value : (s : Bool) (m : ℕ) (e : ℤ) (v : ℕ) → m * up e * 2 ^ 1074 ≡ v * down e → bits (fin s m e) ≡ written s v
unfolding to_bits
at_value s m e v h = ap (λ (n : ℕ). written s n) (ap (λ (z : ℕ). z / down e) h ∙ mul-div_cancel v (down_pos e))

bits_of : (x : Float) → T (fits binary64 x) → T (finite x) → bits x ≡ written (sign (bits x)) (own (bits x))
bits_of nan f t = absurd t
bits_of (inf s) f t = absurd t
bits_of (fin s m e) f t =
    let r = reads (fin s m e) f t in
    at_value s m e (own (bits (fin s m e))) (subst (λ (p : ℕ). m * up e * p ≡ own (bits (fin s m e)) * down e) parts-pow r.1)
    ∙ ap (λ (b : Bool). written b (own (bits (fin s m e)))) r.0

pub once : (x y : Float) → T (fits binary64 x) → T (fits binary64 y) → T (finite x) → T (finite y) → sign (bits x) ≡ sign (bits y) → own (bits x) ≡ own (bits y) → x ≡ y
once x y f g s t e h =
    sym (of_bits-to_bits binary64 x f)
    ∙ ap (λ (b : ℕ). of_bits binary64 b) (bits_of x f s ∙ ap (λ (b : Bool). written b (own (bits x))) e ∙ ap (λ (v : ℕ). written (sign (bits y)) v) h ∙ sym (bits_of y g t))
    ∙ of_bits-to_bits binary64 y g

over-fine : (x : ℕ) (r : Float) → x ≤ S → Over x r → T (finite r)
over-fine x r l h = finite-of r (le_of_mul-le-mul_right (le_trans (le_of_eq h.exact) (le_trans (mul-le-mul_right parts l) (turn parts))) (lit< tt))
  where
    turn : (p : ℕ) → S * p ≤ p * S * S
    turn p = omega arith

pub over-once : (x : ℕ) (r t : Float) → x ≤ S → Over x r → Over x t → r ≡ t
over-once x r t l h k =
    once r t h.double k.double (over-fine x r l h) (over-fine x t l k) (h.signless ∙ sym k.signless)
    (eq_of_mul-eq-mul_right S (lit< tt) (own (bits r)) (own (bits t)) (h.exact ∙ sym k.exact))
