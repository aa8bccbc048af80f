-- A chance times 2^30 cut to a whole number: the truncation may be done and leaves what the own value says, and a comparison tells whether something was
-- cut off. Assumes nothing.
use Rattle.std.proofs.Common.{◌≡◌, ℕ, ◌+◌, ◌-◌, ◌*◌, ◌/◌, ◌^◌, ◌<◌, ◌≤◌, min, Bool, true, false, T, ◌⊎◌, pos, sym, ap, ◌∙◌, subst, inl, inr, ⊎_elim, true≢false, zero-le, le_trans, le_of_eq, mul-le-mul_right, mul_comm, lt_of_mul-lt-mul_right, mul-lt-mul_of_pos_right, mul-pos, zero-mul, mul-one, mul_right_comm, div-mul-le_self, le_of_mul-le-mul_right, arith, lt→ltb, ltb-false, ltb-true}
use mathlib.Core.Bool.{false≢true}
use native.Mathlib.Nat.{zero-div, lt-div-mul-add, eq_of_mul-eq-mul_right}
use lib.Arith.{digits_div}
use lib.Ieee.{Float, nan, inf, fin, binary64, up, down, lt, to_unsigned, fits}
use lib.Ieee.Exact.{HasValue}
use lib.Ieee.Fits.{down_pos}
use lib.Ieee.Nearest.{div_same}
use Rattle.rules.specs.State.{S}
use Rattle.rules.specs.Figure.{rounded}
use Rattle.rules.specs.Doubles.{parts, sign, own, is_chance}
use Rattle.rules.proofs.Grid.{parts-pos}
use Rattle.doubles.specs.Floats.{bits, Times}
use Rattle.doubles.proofs.Reading.{reads, finite-of}
use Rattle.doubles.proofs.Exactly.{chance-says}

-- what is known of a chance times 2^30: a value w over 2^1074 of at most 2^30, and a sign at zero alone
pub record Held (y : Float) (w : ℕ) : Type 0 where
  pub signed : Bool
  pub value : HasValue y signed w parts
  pub within : w ≤ parts * S
  pub signless : (signed ≡ false) ⊎ (w ≡ 0)

pub held : (x y : Float) → T (fits binary64 x) → is_chance (bits x) ≡ true → T (fits binary64 y) → Times x y → Held y (own (bits x) * S)
held x y f t g h =
    let k = chance-says x f t in
    let w : own (bits x) * S ≤ parts * S = mul-le-mul_right S k.1.within in
    let fine : own (bits y) ≤ parts * S = subst (λ (z : ℕ). z ≤ parts * S) (sym h.exact) w in
    record {
      signed = sign (bits y);
      value = subst (λ (z : ℕ). HasValue y (sign (bits y)) z parts) h.exact (reads y g (finite-of y fine));
      within = w;
      signless = ⊎_elim (λ (e : sign (bits x) ≡ false). inl (h.signed ∙ e)) (λ (e : own (bits x) ≡ 0). inr (ap (λ (z : ℕ). z * S) e ∙ zero-mul S)) k.1.signless;
    }

-- ---- a, d, w, p: the float's fraction a / d is w / p

none : (a d p w : ℕ) → 0 < p → a * p ≡ w * d → w ≡ 0 → a ≡ 0
none a d p w P h e = eq_of_mul-eq-mul_right p P a 0 (h ∙ ap (λ (x : ℕ). x * d) e ∙ zero-mul d ∙ sym (zero-mul p))

bounded : (a d p w : ℕ) → 0 < p → a * p ≡ w * d → w ≤ p * S → a ≤ S * d
bounded a d p w P h l = le_of_mul-le-mul_right (le_trans (le_of_eq h) (le_trans (mul-le-mul_right d l) (le_of_eq (turn p d S)))) P
  where
    turn : (p d u : ℕ) → p * u * d ≡ u * d * p
    turn p d u = omega arith

-- ---- the truncation asks -1 < y < 2^64

pub asks : (y : Float) (w : ℕ) → Held y w → T (lt (fin true 1 (pos 0)) y) × T (lt y (fin false 1 (pos 64)))
unfolding lt
asks nan w h = absurd h.value
asks (inf t) w h = absurd h.value
asks (fin false m e) w h =
    let a = m * up e in
    let d = down e in
    let b : a ≤ S * d = bounded a d parts w parts-pos h.value.1 h.within in
    let p : 0 < d = down_pos e in
    (lt→ltb 0 (1 * 1 * d + a * 1) (sum a d p), lt→ltb (a * 1) (1 * 2 ^ 64 * d) (less a d p b))
  where
    sum : (a d : ℕ) → 0 < d → 0 < 1 * 1 * d + a * 1
    sum a d p = omega arith

    less : (a d : ℕ) → 0 < d → a ≤ S * d → a * 1 < 1 * 2 ^ 64 * d
    less a d p b = omega arith
asks (fin true m e) w h =
    let a = m * up e in
    let d = down e in
    let p : 0 < d = down_pos e in
    let z : a ≡ 0 = none a d parts w parts-pos h.value.1 (⊎_elim (λ (f : h.signed ≡ false). absurd (true≢false (h.value.0 ∙ f))) (λ (f : w ≡ 0). f) h.signless) in
    (lt→ltb (a * 1) (1 * 1 * d) (less a d p z), lt→ltb 0 (a * 1 + 1 * 2 ^ 64 * d) (sum a d p))
  where
    less : (a d : ℕ) → 0 < d → a ≡ 0 → a * 1 < 1 * 1 * d
    less a d p b = omega arith

    sum : (a d : ℕ) → 0 < d → 0 < a * 1 + 1 * 2 ^ 64 * d
    sum a d p = omega arith

-- ---- and leaves w / 2^1074

capped : (q : ℕ) → q ≤ S → min q (2 ^ 64 - 1) ≡ q
capped q h = omega arith

quotient_le : (w p : ℕ) → 0 < p → w ≤ p * S → w / p ≤ S
quotient_le w p P h = le_of_mul-le-mul_right (le_trans (div-mul-le_self w p) (le_trans h (le_of_eq (mul_comm p S)))) P

pub cut : (y : Float) (w : ℕ) → Held y w → to_unsigned 64 y ≡ w / parts
unfolding to_unsigned
cut nan w h = absurd h.value
cut (inf t) w h = absurd h.value
cut (fin false m e) w h =
    let q : m * up e / down e ≡ w / parts = div_same (m * up e) (down e) w parts (down_pos e) parts-pos h.value.1 in
    ap (λ (z : ℕ). min z (2 ^ 64 - 1)) q ∙ capped (w / parts) (quotient_le w parts parts-pos h.within)
cut (fin true m e) w h = sym (ap (λ (z : ℕ). z / parts) (⊎_elim (λ (f : h.signed ≡ false). absurd (true≢false (h.value.0 ∙ f))) (λ (f : w ≡ 0). f) h.signless) ∙ zero-div parts)

pub cut-le : (w : ℕ) → w ≤ parts * S → w / parts ≤ S
cut-le w l = quotient_le w parts parts-pos l

-- ---- what is left compared with what was cut

-- a / e is k, and b / d is w / p: both over the one denominator
left : (a e k d p : ℕ) → a * 1 ≡ k * e → a * d * p ≡ k * p * (e * d)
left a e k d p h = ap (λ (z : ℕ). z * d * p) (sym (mul-one a) ∙ h) ∙ turn k e d p
  where
    turn : (k e d p : ℕ) → k * e * d * p ≡ k * p * (e * d)
    turn k e d p = omega arith

right : (b e p w d : ℕ) → b * p ≡ w * d → b * e * p ≡ w * (e * d)
right b e p w d i = mul_right_comm b e p ∙ ap (λ (z : ℕ). z * e) i ∙ turn w d e
  where
    turn : (w d e : ℕ) → w * d * e ≡ w * (e * d)
    turn w d e = omega arith

cross-lt : (a e b d k w p : ℕ) → a * 1 ≡ k * e → b * p ≡ w * d → 0 < p → a * d < b * e → k * p < w
cross-lt a e b d k w p h i P l =
    lt_of_mul-lt-mul_right (e * d)
    (subst (λ (z : ℕ). k * p * (e * d) < z) (right b e p w d i) (subst (λ (z : ℕ). z < b * e * p) (left a e k d p h) (mul-lt-mul_of_pos_right l P)))

cross-le : (a e b d k w p : ℕ) → a * 1 ≡ k * e → b * p ≡ w * d → 0 < e * d → b * e ≤ a * d → w ≤ k * p
cross-le a e b d k w p h i Q l =
    le_of_mul-le-mul_right
    (subst (λ (z : ℕ). z ≤ k * p * (e * d)) (right b e p w d i) (subst (λ (z : ℕ). b * e * p ≤ z) (left a e k d p h) (mul-le-mul_right p l))) Q

pub more : (x y : Float) (k w : ℕ) → HasValue x false k 1 → Held y w → lt x y ≡ true → k * parts < w
unfolding lt
more nan y k w h i t = absurd h
more (inf s) y k w h i t = absurd h
more (fin true m e) y k w h i t = absurd (true≢false h.0)
more (fin false m e) nan k w h i t = absurd i.value
more (fin false m e) (inf s) k w h i t = absurd i.value
more (fin false m e) (fin true n d) k w h i t = absurd (false≢true t)
more (fin false m e) (fin false n d) k w h i t =
    cross-lt (m * up e) (down e) (n * up d) (down d) k w parts h.1 i.value.1 parts-pos (ltb-true (m * up e * down d) (n * up d * down e) t)

pub no_more : (x y : Float) (k w : ℕ) → HasValue x false k 1 → Held y w → lt x y ≡ false → w ≤ k * parts
unfolding lt
no_more nan y k w h i t = absurd h
no_more (inf s) y k w h i t = absurd h
no_more (fin true m e) y k w h i t = absurd (true≢false h.0)
no_more (fin false m e) nan k w h i t = absurd i.value
no_more (fin false m e) (inf s) k w h i t = absurd i.value
no_more (fin false m e) (fin true n d) k w h i t =
    subst (λ (z : ℕ). z ≤ k * parts) (sym (⊎_elim (λ (f : i.signed ≡ false). absurd (true≢false (i.value.0 ∙ f))) (λ (f : w ≡ 0). f) i.signless)) zero-le
no_more (fin false m e) (fin false n d) k w h i t =
    cross-le (m * up e) (down e) (n * up d) (down d) k w parts h.1 i.value.1 (mul-pos (down_pos e) (down_pos d)) (ltb-false (m * up e * down d) (n * up d * down e) t)

-- ---- the whole number just above: one more where something was cut off

pub step-up : (k p w : ℕ) → 0 < p → k ≡ w / p → k * p < w → k + 1 ≡ rounded true p w
unfolding rounded
step-up k p w P e l =
    let r = w - k * p - 1 in
    let d : w + (p - 1) ≡ (k + 1) * p + r = omega (arith, lt-div-mul-add {a = w} P, ap (λ (z : ℕ). z * p) e) in
    sym (ap (λ (z : ℕ). z / p) d ∙ digits_div (k + 1) (omega (arith, lt-div-mul-add {a = w} P, ap (λ (z : ℕ). z * p) e)))

pub stay : (k p w : ℕ) → 0 < p → k ≡ w / p → w ≤ k * p → k ≡ rounded true p w
unfolding rounded
stay k p w P e l =
    let d : w + (p - 1) ≡ k * p + (p - 1) = omega (arith, div-mul-le_self w p, ap (λ (z : ℕ). z * p) e) in
    sym (ap (λ (z : ℕ). z / p) d ∙ digits_div k (omega arith))
