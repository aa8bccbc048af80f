-- The digits rounded down, times their power of two, are the nearest own value below the fraction; rounded up, the nearest above. A value whose last place
-- is no lower is a multiple of that power, and compares by its digits; one whose last place is lower is below the first digit's, and far from the
-- fraction. Assumes nothing.
use mathlib.Core.Path.{◌≡◌, refl, sym, ap, ◌∙◌, subst}
use mathlib.Core.Bool.{Bool, true, false}
use mathlib.Core.Logic.{◌⊎◌, inl, inr}
use Prim.Native.Nat.{ℕ, ◌+◌, ◌-◌, ◌*◌, ◌^◌, ◌≤◌, ◌<◌, zero-le}
use native.Mathlib.Nat.{le_trans, le_of_eq, le_of_lt, lt_of_lt_of_le, lt_of_le_of_lt, lt_irrefl, mul-le-mul_right, mul-le-mul_left, le_of_mul-le-mul_right, mul-lt-mul_of_pos_right, mul_assoc, mul_right_comm, pow-le-pow_right, pow-suc}
use native.Mathlib.Omega.{arith}
use borrow.Author.Tests.{ltb-true, ltb-false}
use lib.Dec.{leb, ltb, lit<}
use lib.Pow.{pow_pos, pow-add}
use lib.Ieee.{binary64, of_bits, to_bits}
use lib.Ieee.Bits.{of_bits-fits}
use Rattle.rules.specs.Figure.{rounded}
use Rattle.rules.specs.Doubles.{parts, sign, spelt, own}
use Rattle.rules.proofs.Rounding.{down_le, le_up, whole, round_up}
use Rattle.doubles.specs.Floats.{bits}
use Rattle.doubles.proofs.Reading.{parts-pow, Digits, own-digits}
use Rattle.nearest.specs.declared.Raised.{Raised}
use Rattle.nearest.specs.Nearest.{Bounds, Nearest}
use Rattle.nearest.specs.Raised.{Scaled, Raises}
use Rattle.nearest.proofs.Pattern.{first, Placed, spells, no_sign, bits_back}

-- ---- bounds

pub bounds-times : (up : Bool) (v w c : ℕ) → Bounds up v w → Bounds up (v * c) (w * c)
bounds-times false v w c s = mul-le-mul_right c s
bounds-times true v w c s = mul-le-mul_right c s

pub bounds-over : (up : Bool) (v w c : ℕ) → 0 < c → Bounds up (v * c) (w * c) → Bounds up v w
bounds-over false v w c p s = le_of_mul-le-mul_right s p
bounds-over true v w c p s = le_of_mul-le-mul_right s p

rounded-bounds : (up : Bool) (u w : ℕ) → 0 < u → Bounds up (rounded up u w * u) w
rounded-bounds false u w p = down_le u w
rounded-bounds true u w p = le_up u w p

-- a whole number that bounds w / u is no nearer than w / u rounded
rounded-nearest : (up : Bool) (u w m : ℕ) → 0 < u → Bounds up (m * u) w → Bounds up m (rounded up u w)
rounded-nearest false u w m p s = subst (λ (z : ℕ). z ≤ rounded false u w) (whole false u m p) (round_up false u (m * u) w p s)
rounded-nearest true u w m p s = subst (λ (z : ℕ). rounded true u w ≤ z) (whole true u m p) (round_up true u w (m * u) p s)

-- ---- 53 digits

module _ (up : Bool) (unit near field : ℕ) (h : Scaled unit near) where
  abbrev w : ℕ
  w = near * first

  abbrev q : ℕ
  q = rounded up unit w

  pub digits-least : first ≤ q
  digits-least = subst (λ (z : ℕ). z ≤ q) (whole up unit first h.some) (round_up up unit (first * unit) w h.some (omega (arith, h.least)))

  pub digits-most : q ≤ 2 * first
  digits-most = subst (λ (z : ℕ). q ≤ z) (whole up unit (2 * first) h.some) (round_up up unit w (2 * first * unit) h.some (omega (arith, h.less)))

  pub value-bounds : Bounds up (q * 2 ^ field * unit) (w * 2 ^ field)
  value-bounds =
      subst (λ (z : ℕ). Bounds up z (w * 2 ^ field)) (mul_right_comm q unit (2 ^ field)) (bounds-times up (q * unit) w (2 ^ field) (rounded-bounds up unit w h.some))

  -- a multiple of the power of two
  coarse : (m : ℕ) → Bounds up (m * 2 ^ field * unit) (w * 2 ^ field) → Bounds up (m * 2 ^ field) (q * 2 ^ field)
  coarse m s =
      bounds-times up m q (2 ^ field)
      (rounded-nearest up unit w m h.some (bounds-over up (m * unit) w (2 ^ field) (pow_pos field) (subst (λ (z : ℕ). Bounds up z (w * 2 ^ field)) (mul_right_comm m (2 ^ field) unit) s)))

  -- less than the first digit
  fine : (u : Bool) (v : ℕ) → v < first * 2 ^ field → Bounds u (v * unit) (w * 2 ^ field) → first ≤ q → Bounds u v (q * 2 ^ field)
  fine false v l s k = le_trans (le_of_lt l) (mul-le-mul_right (2 ^ field) k)
  fine true v l s k =
      absurd
      (lt_irrefl _
      (lt_of_le_of_lt s
      (lt_of_lt_of_le (mul-lt-mul_of_pos_right l h.some)
      (le_trans (mul-le-mul_left (first * 2 ^ field) h.least) (le_of_eq (turn (2 ^ field) near))))))
    where
      turn : (g n : ℕ) → first * g * n ≡ n * first * g
      turn g n = omega arith

  places : (d : ℕ) (p : ℕ) → d < 2 ^ 53 → (field ≤ p) ⊎ (p < field) → Bounds up (d * 2 ^ p * unit) (w * 2 ^ field) → Bounds up (d * 2 ^ p) (q * 2 ^ field)
  places d p l (inl k) s =
      let e : d * 2 ^ p ≡ d * 2 ^ (p - field) * 2 ^ field = ap (λ (z : ℕ). d * 2 ^ z) (apart p field k) ∙ ap (λ (z : ℕ). d * z) (pow-add 2 (p - field) field) ∙ sym (mul_assoc d (2 ^ (p - field)) (2 ^ field)) in
      subst (λ (z : ℕ). Bounds up z (q * 2 ^ field)) (sym e) (coarse (d * 2 ^ (p - field)) (subst (λ (z : ℕ). Bounds up (z * unit) (w * 2 ^ field)) e s))
    where
      apart : (p f : ℕ) → f ≤ p → p ≡ (p - f) + f
      apart p f k = omega arith
  places d p l (inr k) s = fine up (d * 2 ^ p) small s digits-least
    where
      twice : (g : ℕ) → 2 ^ 53 * g ≡ first * (g * 2)
      twice g = omega arith

      small : d * 2 ^ p < first * 2 ^ field
      small = lt_of_lt_of_le (mul-lt-mul_of_pos_right l (pow_pos p)) (le_trans (le_of_eq (twice (2 ^ p) ∙ ap (λ (z : ℕ). first * z) (sym (pow-suc 2 p)))) (mul-le-mul_left first (pow-le-pow_right (lit< tt) k)))

  pub value-nearest : (v : ℕ) → Digits v → Bounds up (v * unit) (w * 2 ^ field) → Bounds up v (q * 2 ^ field)
  value-nearest v g s =
      subst (λ (z : ℕ). Bounds up z (q * 2 ^ field)) (sym g.are)
      (places g.digits g.places g.few (compared field g.places) (subst (λ (z : ℕ). Bounds up (z * unit) (w * 2 ^ field)) g.are s))
    where
      compared : (a b : ℕ) → (a ≤ b) ⊎ (b < a)
      compared a b = go (ltb b a) refl
        where
          go : (t : Bool) → ltb b a ≡ t → (a ≤ b) ⊎ (b < a)
          go true e = inr (ltb-true b a e)
          go false e = inl (ltb-false b a e)

-- ---- the fraction's own value in parts of 2^1074

same_parts : (near field x : ℕ) → near * 2 ^ field ≡ x * 2 ^ 1022 → near * first * 2 ^ field ≡ x * parts
same_parts near field x e =
    mul_right_comm near first (2 ^ field)
    ∙ ap (λ (z : ℕ). z * first) e
    ∙ mul_assoc x (2 ^ 1022) first
    ∙ ap (λ (z : ℕ). x * z) (sym (pow-add 2 1022 52) ∙ sym parts-pow)

pub placed : (up : Bool) (unit x : ℕ) (r : Raised) (q : ℕ) → Raises unit x r → q ≡ rounded up unit (r.near * 2 ^ 52) → Placed r.field q
placed up unit x r q h e = record {
  small = h.field;
  least = subst (λ (z : ℕ). first ≤ z) (sym e) (digits-least up unit r.near r.field h.scaled);
  most = subst (λ (z : ℕ). z ≤ 2 * first) (sym e) (digits-most up unit r.near r.field h.scaled);
}

pub nearest-of : (up : Bool) (unit x : ℕ) (r : Raised) (q : ℕ) → Raises unit x r → q ≡ rounded up unit (r.near * 2 ^ 52) → Nearest up unit x (of_bits binary64 (r.field * first + q))
nearest-of up unit x r q h e =
    let n = r.near in
    let f = r.field in
    let s = h.scaled in
    let all : n * first * 2 ^ f ≡ x * parts = same_parts n f x h.same in
    let p = placed up unit x r q h e in
    let b = f * first + q in
    let back = bits_back f q p in
    let is : own (bits (of_bits binary64 b)) ≡ rounded up unit (n * first) * 2 ^ f = ap own back ∙ spells f q p ∙ ap (λ (z : ℕ). z * 2 ^ f) e in
    record {
      double = of_bits-fits binary64 b;
      signless = subst (λ (z : ℕ). leb (2 ^ 63) z ≡ false) (sym back) (no_sign f q p);
      bounds = subst (λ (z : ℕ). Bounds up (z * unit) (x * parts)) (sym is) (subst (λ (z : ℕ). Bounds up (rounded up unit (n * first) * 2 ^ f * unit) z) all (value-bounds up unit n f s));
      nearest =
          λ (c : ℕ) t.
          subst (λ (z : ℕ). Bounds up (own c) z) (sym is) (value-nearest up unit n f s (own c) (own-digits c) (subst (λ (z : ℕ). Bounds up (own c * unit) z) (sym all) t));
    }

-- ---- nothing at all

pub nothing : (up : Bool) (unit : ℕ) → 0 < unit → Nearest up unit 0 (of_bits binary64 0)
nothing up unit p = record {
  double = of_bits-fits binary64 0;
  signless = ap sign back;
  bounds = subst (λ (v : ℕ). Bounds up (v * unit) (0 * parts)) (sym is) (none up);
  nearest = λ (b : ℕ) s. subst (λ (v : ℕ). Bounds up (own b) v) (sym is) (least up (own b) s);
}
  where
    back : bits (of_bits binary64 0) ≡ 0
    back = unfold of_bits to_bits in refl

    is : own (bits (of_bits binary64 0)) ≡ 0
    is = ap own back ∙ (unfold own spelt in refl)

    flat : (c : ℕ) → 0 * c ≡ 0
    flat c = omega arith

    none : (up : Bool) → Bounds up (0 * unit) (0 * parts)
    none false = le_of_eq (flat unit ∙ sym (flat parts))
    none true = le_of_eq (flat parts ∙ sym (flat unit))

    least : (up : Bool) (v : ℕ) → Bounds up (v * unit) (0 * parts) → Bounds up v 0
    least false v s = le_of_mul-le-mul_right (le_trans s (le_of_eq (flat parts ∙ sym (flat unit)))) p
    least true v s = zero-le
