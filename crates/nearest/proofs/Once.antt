-- A fraction from 0 to 1 has one nearest double below it and one above; in parts of 2^30 it is the fraction itself, as request 10 has it. Assumes nothing.
use mathlib.Core.Path.{◌≡◌, sym, ◌∙◌, subst}
use mathlib.Core.Bool.{Bool, true, false}
use Prim.Native.Nat.{ℕ, ◌+◌, ◌*◌, ◌≤◌}
use native.Mathlib.Nat.{le_trans, le_of_eq, le_antisymm, mul_comm, mul-le-mul_right, le_of_mul-le-mul_right}
use native.Mathlib.Omega.{arith}
use lib.Dec.{T, lit<, lit≤}
use lib.Pow.{pow-add}
use lib.Ieee.{Float}
use lib.Ieee.Scale.{finite}
use Rattle.rules.specs.State.{S}
use Rattle.rules.specs.Doubles.{parts, own}
use Rattle.doubles.specs.Floats.{bits, Over}
use Rattle.doubles.proofs.Reading.{parts-pow, finite-of}
use Rattle.doubles.proofs.Exactly.{over}
use Rattle.doubles.proofs.Once.{once}
use Rattle.nearest.specs.Nearest.{Bounds, Nearest}
use Rattle.nearest.specs.Raised.{Within}
use Rattle.nearest.proofs.Pattern.{first, spells}
use Rattle.nearest.proofs.Values.{bounds-over}

bounds-same : (up : Bool) (v w : ℕ) → Bounds up v w → Bounds up w v → v ≡ w
bounds-same false v w h k = le_antisymm h k
bounds-same true v w h k = le_antisymm k h

-- the bits of 1
abbrev one : ℕ
one = 1022 * first + first

one-is : own one ≡ parts
one-is = spells 1022 first (record { small = lit≤ tt; least = lit≤ tt; most = lit≤ tt }) ∙ sym (pow-add 2 52 1022) ∙ sym parts-pow

pub at_most_one : (up : Bool) (unit x : ℕ) (r : Float) → Within unit x → Nearest up unit x r → own (bits r) ≤ parts
at_most_one false unit x r l h =
    le_of_mul-le-mul_right (le_trans h.bounds (le_trans (mul-le-mul_right parts l.part) (le_of_eq (mul_comm unit parts)))) l.some
at_most_one true unit x r l h =
    subst (λ (z : ℕ). own (bits r) ≤ z) one-is
    (h.nearest one (subst (λ (z : ℕ). x * parts ≤ z * unit) (sym one-is) (le_trans (mul-le-mul_right parts l.part) (le_of_eq (mul_comm unit parts)))))

fine : (up : Bool) (unit x : ℕ) (r : Float) → Within unit x → Nearest up unit x r → T (finite r)
fine up unit x r l h = finite-of r (le_trans (at_most_one up unit x r l h) (more parts))
  where
    more : (p : ℕ) → p ≤ p * S
    more p = omega arith

pub nearest-once : (up : Bool) (unit x : ℕ) (r t : Float) → Within unit x → Nearest up unit x r → Nearest up unit x t → r ≡ t
nearest-once up unit x r t l h k =
    once r t h.double k.double (fine up unit x r l h) (fine up unit x t l k) (h.signless ∙ sym k.signless)
    (bounds-same up (own (bits r)) (own (bits t)) (k.nearest (bits r) h.bounds) (h.nearest (bits t) k.bounds))

-- ---- parts of 2^30

bounds-self : (up : Bool) (v w : ℕ) → v ≡ w → Bounds up v w
bounds-self false v w e = le_of_eq e
bounds-self true v w e = le_of_eq (sym e)

exact-nearest : (up : Bool) (x : ℕ) (r : Float) → Over x r → Nearest up S x r
exact-nearest up x r h = record {
  double = h.double;
  signless = h.signless;
  bounds = bounds-self up (own (bits r) * S) (x * parts) h.exact;
  nearest = λ (b : ℕ) s. bounds-over up (own b) (own (bits r)) S (lit< tt) (subst (λ (z : ℕ). Bounds up (own b * S) z) (sym h.exact) s);
}

-- version 1's answers are those of request 10's call
pub nearest-exact : (up : Bool) (x : ℕ) (r : Float) → x ≤ S → Nearest up S x r → Over x r
nearest-exact up x r l h =
    subst (λ (z : Float). Over x z)
    (nearest-once up S x _ r (record { some = lit< tt; most = lit≤ tt; part = l }) (exact-nearest up x _ (over x l)) h)
    (over x l)
