-- Division and multiplication by 2^30 lose nothing: a chance has at most 53 digits that count, and 2^30 moves them. Assumes nothing.
use Rattle.std.proofs.Common.{◌≡◌, ℕ, ◌+◌, ◌*◌, ◌^◌, ◌<◌, ◌≤◌, Bool, true, false, not, ◌&&◌, ◌||◌, T, eqb, leb, ◌⊎◌, ℤ, pos, sym, refl, ap, ◌∙◌, subst, inl, inr, true≢false, le_trans, lt_of_lt_of_le, lt_of_le_of_lt, le_of_lt, mul-le-mul_right, mul_assoc, mul-pos, arith, lit<, lit≤, pow-add, shl_lt, eqb-true, leb-true}
use lib.Ieee.{Float, nan, inf, fin, binary64, up, down, round, mul, div, of_int, fits}
use lib.Ieee.Exact.{HasValue, round_exact}
use lib.Ieee.Fits.{down_pos, div-fits, mul-fits}
use lib.Ieee.Back.{round_whole}
use Rattle.rules.specs.State.{S}
use Rattle.rules.specs.Doubles.{parts, sign, own, not_aNumber, is_chance}
use Rattle.rules.proofs.Grid.{cell, parts_is}
use Rattle.doubles.specs.Floats.{bits, Over, Times}
use Rattle.rules.proofs.Tests.{both}
use Rattle.doubles.proofs.Reading.{parts-pow, cell-pow, reads, spelling, rescaled, Digits, own-digits, finite-of}

-- 2^30 as a float
abbrev pub unit : Float
unit = fin false 1 (pos 30)

-- ---- out

pub whole-value : (x : ℕ) → x ≤ 2 ^ 53 → HasValue (of_int binary64 (pos x)) false x 1
unfolding of_int
whole-value x h = round_whole binary64 false x h

small : (x : ℕ) → x ≤ S → x < 2 ^ 53
small x h = omega arith

-- no overflow: 53 digits and 1044 places
under : (x : ℕ) → x < 2 ^ 53 → x * 2 ^ 1044 < 2 ^ 2098
under x h = lt_of_lt_of_le (shl_lt 53 1044 h) (lit≤ tt)

-- the division's fraction, as `round` wants it: p is 2^1074, c is 2^1044
fraction-out : (a d x p c : ℕ) → a * 1 ≡ x * d → p ≡ c * S → a * 1 * p ≡ x * c * (1 * S * d)
fraction-out a d x p c h k = ap (λ (z : ℕ). z * p) h ∙ ap (λ (z : ℕ). x * d * z) k ∙ regroup x d c S
  where
    regroup : (x d c u : ℕ) → x * d * (c * u) ≡ x * c * (1 * u * d)
    regroup x d c u = omega arith

over-value : (X : Float) (x : ℕ) → x ≤ S → HasValue X false x 1 → HasValue (div binary64 X unit) false (x * cell) parts
unfolding div
over-value nan x l h = absurd h
over-value (inf t) x l h = absurd h
over-value (fin true m e) x l h = absurd (true≢false h.0)
over-value (fin false m e) x l h =
    let num = m * up e * 1 in
    let den = 1 * 2 ^ 30 * down e in
    let D : 0 < den = mul-pos (lit< tt) (down_pos e) in
    let k : num * parts ≡ x * cell * den = fraction-out (m * up e) (down e) x parts cell h.1 parts_is in
    let k' : num * 2 ^ 1074 ≡ x * 2 ^ 1044 * den = subst (λ (p : ℕ). num * p ≡ x * 2 ^ 1044 * den) parts-pow (subst (λ (c : ℕ). num * parts ≡ x * c * den) cell-pow k) in
    rescaled (round binary64 false num den) false num den (x * cell) parts D k
    (round_exact binary64 false num den x 1044 D (small x l) (under x (small x l)) k')

pub over : (x : ℕ) → x ≤ S → Over x (div binary64 (of_int binary64 (pos x)) unit)
over x h =
    let X = of_int binary64 (pos x) in
    let r = spelling (div binary64 X unit) false (x * cell) (div-fits binary64 X unit) (over-value X x h (whole-value x (le_of_lt (small x h)))) in
    record {
      double = div-fits binary64 X unit;
      signless = r.signed;
      exact = ap (λ (z : ℕ). z * S) r.spells ∙ mul_assoc x cell S ∙ ap (λ (z : ℕ). x * z) (sym parts_is);
    }

-- ---- in: what a chance is

pub record Chance (s : Bool) (v : ℕ) : Type 0 where
  pub within : v ≤ parts
  pub signless : (s ≡ false) ⊎ (v ≡ 0)

no_sign : (s : Bool) (v : ℕ) → (not s || eqb v 0) ≡ true → (s ≡ false) ⊎ (v ≡ 0)
no_sign false v t = inl refl
no_sign true v t = inr (eqb-true v 0 t)

pub chance-says : (x : Float) → T (fits binary64 x) → is_chance (bits x) ≡ true → HasValue x (sign (bits x)) (own (bits x)) parts × Chance (sign (bits x)) (own (bits x))
unfolding is_chance
chance-says x f t =
    let b = bits x in
    let z = both (not (not_aNumber b) && (not (sign b) || eqb (own b) 0)) (leb (own b) parts) t in
    let y = both (not (not_aNumber b)) (not (sign b) || eqb (own b) 0) z.0 in
    let w = leb-true (own b) parts z.1 in
    (reads x f (finite-of x (le_trans w (more parts))), record { within = w; signless = no_sign (sign b) (own b) y.1 })
  where
    more : (p : ℕ) → p ≤ p * S
    more p = omega arith

-- ---- in: times 2^30

fraction-in : (a d v q p t : ℕ) → a * p ≡ v * d → v ≡ q * t → a * (1 * S) * p ≡ q * (t * S) * (d * 1)
fraction-in a d v q p t h k = swap a p S ∙ ap (λ (z : ℕ). z * S) (h ∙ ap (λ (z : ℕ). z * d) k) ∙ regroup q t d S
  where
    swap : (a p u : ℕ) → a * (1 * u) * p ≡ a * p * u
    swap a p u = omega arith

    regroup : (q t d u : ℕ) → q * t * d * u ≡ q * (t * u) * (d * 1)
    regroup q t d u = omega arith

room : parts * S < 2 ^ 2098
unfolding parts
room = lit< tt

times-value : (s : Bool) (m : ℕ) (e : ℤ) (v : ℕ) → Digits v → v ≤ parts → m * up e * parts ≡ v * down e
    → HasValue (round binary64 s (m * up e * (1 * 2 ^ 30)) (down e * 1)) s (v * S) parts
times-value s m e v g l h =
    let q = g.digits in
    let j = g.places in
    let num = m * up e * (1 * 2 ^ 30) in
    let den = down e * 1 in
    let D : 0 < den = mul-pos (down_pos e) (lit< tt) in
    let P : 2 ^ (j + 30) ≡ 2 ^ j * S = pow-add 2 j 30 in
    let k : num * parts ≡ q * (2 ^ j * S) * den = fraction-in (m * up e) (down e) v q parts (2 ^ j) h g.are in
    let k' : num * 2 ^ 1074 ≡ q * 2 ^ (j + 30) * den = subst (λ (p : ℕ). num * p ≡ q * 2 ^ (j + 30) * den) parts-pow (subst (λ (z : ℕ). num * parts ≡ q * z * den) (sym P) k) in
    let vs : q * (2 ^ j * S) ≡ v * S = sym (mul_assoc q (2 ^ j) S) ∙ ap (λ (z : ℕ). z * S) (sym g.are) in
    let fine : q * 2 ^ (j + 30) < 2 ^ 2098 = subst (λ (z : ℕ). q * z < 2 ^ 2098) (sym P) (subst (λ (z : ℕ). z < 2 ^ 2098) (sym vs) (lt_of_le_of_lt (mul-le-mul_right S l) room)) in
    rescaled (round binary64 s num den) s num den (v * S) parts D (subst (λ (z : ℕ). num * parts ≡ z * den) vs k)
    (round_exact binary64 s num den q (j + 30) D g.few fine k')

times-of : (x : Float) (s : Bool) (v : ℕ) → Digits v → v ≤ parts → HasValue x s v parts → HasValue (mul binary64 x unit) s (v * S) parts
unfolding mul
times-of nan s v g l h = absurd h
times-of (inf t) s v g l h = absurd h
times-of (fin true m e) s v g l h = subst (λ (b : Bool). HasValue (round binary64 true (m * up e * (1 * 2 ^ 30)) (down e * 1)) b (v * S) parts) h.0 (times-value true m e v g l h.1)
times-of (fin false m e) s v g l h = subst (λ (b : Bool). HasValue (round binary64 false (m * up e * (1 * 2 ^ 30)) (down e * 1)) b (v * S) parts) h.0 (times-value false m e v g l h.1)

pub times : (x : Float) → T (fits binary64 x) → is_chance (bits x) ≡ true → Times x (mul binary64 x unit)
times x f t =
    let k = chance-says x f t in
    let r = spelling (mul binary64 x unit) (sign (bits x)) (own (bits x) * S) (mul-fits binary64 x unit) (times-of x (sign (bits x)) (own (bits x)) (own-digits (bits x)) k.1.within k.0) in
    record { signed = r.signed; exact = r.spells }
