-- The two comparisons with 0 and 1 say what the bits say, of every float: a NaN passes neither, negative zero both. Assumes nothing.
use Rattle.std.proofs.Common.{◌≡◌, ℕ, ◌+◌, ◌*◌, ◌<◌, ◌≤◌, Bool, true, false, ◌&&◌, ◌||◌, T, eqb, ltb, leb, ◌⊎◌, ℤ, pos, sym, refl, ap, ◌∙◌, subst, inl, inr, zero-le, le_trans, le_of_eq, mul-le-mul_right, mul_comm, eq-or-lt_of_le, zero-mul, mul-one, le_of_mul-le-mul_right, arith, le→leb, eqb→eq, ltb→lt, lt→ltb, leb→le, le-leb}
use native.Mathlib.Nat.{eq_of_mul-eq-mul_right}
use lib.Ieee.{Float, nan, inf, fin, binary64, up, down, le, to_bits, fits}
use lib.Ieee.Fits.{down_pos, and_i, and_l, eq→eqb}
use Rattle.rules.specs.Doubles.{parts, spelt, own, is_chance}
use Rattle.rules.proofs.Grid.{parts-pos}
use Rattle.doubles.specs.Floats.{bits}
use Rattle.doubles.proofs.Reading.{reads, chance-is}

abbrev pub nought : Float
nought = fin false 0 (pos 0)

abbrev pub one : Float
one = fin false 1 (pos 0)

same_test : (a b : Bool) → (T a → T b) → (T b → T a) → a ≡ b
same_test true true p q = refl
same_test true false p q = absurd (p tt)
same_test false true p q = absurd (q tt)
same_test false false p q = refl

-- `<=` of two that are not negative
le_test : (a b : ℕ) → (ltb a b || (eqb a b && true)) ≡ leb a b
le_test a b =
    same_test (ltb a b || (eqb a b && true)) (leb a b)
    (λ t. le→leb a b (forth (ltb a b) (eqb a b) (ltb→lt a b) (eqb→eq a b) t))
    (λ t. back (ltb a b) (eqb a b) (lt→ltb a b) (λ (e : a ≡ b). eq→eqb e) (eq-or-lt_of_le (leb→le a b t)))
  where
    forth : (x y : Bool) → (T x → a < b) → (T y → a ≡ b) → T (x || (y && true)) → a ≤ b
    forth true y h k t = let l = h tt in omega arith
    forth false true h k t = let l = k tt in omega arith
    forth false false h k t = absurd t

    back : (x y : Bool) → (a < b → T x) → (a ≡ b → T y) → (a ≡ b) ⊎ (a < b) → T (x || (y && true))
    back true y h k l = tt
    back false true h k l = tt
    back false false h k (inl e) = k e
    back false false h k (inr l) = h l

-- a / d at most 1 is v / p at most 1
at_most : (a d v p : ℕ) → 0 < d → 0 < p → a * p ≡ v * d → leb (a * 1) (1 * 1 * d) ≡ leb v p
at_most a d v p D P h =
    same_test (leb (a * 1) (1 * 1 * d)) (leb v p)
    (λ t. le→leb v p (down_to (leb→le (a * 1) (1 * 1 * d) t)))
    (λ t. le→leb (a * 1) (1 * 1 * d) (up-to (leb→le v p t)))
  where
    down_to : a * 1 ≤ 1 * 1 * d → v ≤ p
    down_to l =
        let k : a * p ≤ d * p = mul-le-mul_right p (flat l) in
        le_of_mul-le-mul_right (le_trans (le_of_eq (sym h)) (le_trans k (le_of_eq (mul_comm d p)))) D
      where
        flat : a * 1 ≤ 1 * 1 * d → a ≤ d
        flat l = omega arith

    up-to : v ≤ p → a * 1 ≤ 1 * 1 * d
    up-to l =
        let k : v * d ≤ p * d = mul-le-mul_right d l in
        full (le_of_mul-le-mul_right (le_trans (le_of_eq h) (le_trans k (le_of_eq (mul_comm p d)))) P)
      where
        full : a ≤ d → a * 1 ≤ 1 * 1 * d
        full l = omega arith

-- a negative float: at least 0 exactly if it is zero
at_least : (a d v p : ℕ) → 0 < d → 0 < p → a * p ≡ v * d
    → (eqb (0 * 1 * d) (a * 1) && eqb (0 * 1 * d) 0) ≡ (eqb v 0 && leb v p)
at_least a d v p D P h =
    same_test (eqb (0 * 1 * d) (a * 1) && eqb (0 * 1 * d) 0) (eqb v 0 && leb v p)
    (λ t. let z = none (eqb→eq (0 * 1 * d) (a * 1) (and_l (eqb (0 * 1 * d) (a * 1)) (eqb (0 * 1 * d) 0) t)) in and_i (eqb v 0) (leb v p) (eq→eqb z) (le→leb v p (subst (λ (x : ℕ). x ≤ p) (sym z) zero-le)))
    (λ t. and_i (eqb (0 * 1 * d) (a * 1)) (eqb (0 * 1 * d) 0) (eq→eqb (nothing (eqb→eq v 0 (and_l (eqb v 0) (leb v p) t)))) (eq→eqb (flat d)))
  where
    flat : (d : ℕ) → 0 * 1 * d ≡ 0
    flat d = omega arith

    none : 0 * 1 * d ≡ a * 1 → v ≡ 0
    none e = eq_of_mul-eq-mul_right d D v 0 (sym h ∙ ap (λ (x : ℕ). x * p) (sym (mul-one a) ∙ sym e ∙ flat d) ∙ zero-mul p ∙ sym (zero-mul d))

    nothing : v ≡ 0 → 0 * 1 * d ≡ a * 1
    nothing e = flat d ∙ sym (mul-one a ∙ eq_of_mul-eq-mul_right p P a 0 (h ∙ ap (λ (x : ℕ). x * d) e ∙ zero-mul d ∙ sym (zero-mul p)))

pos_sum : (a d : ℕ) → 0 < d → T (ltb 0 (a * 1 + 1 * 1 * d))
pos_sum a d D = lt→ltb 0 (a * 1 + 1 * 1 * d) (at_all a d D)
  where
    at_all : (a d : ℕ) → 0 < d → 0 < a * 1 + 1 * 1 * d
    at_all a d D = omega arith

any : (b c : Bool) → T b → (b || c) ≡ true
any true c t = refl
any false c t = absurd t

above-nought : (a d : ℕ) → (ltb (0 * 1 * d) (a * 1) || (eqb (0 * 1 * d) (a * 1) && true)) ≡ true
above-nought a d = le_test (0 * 1 * d) (a * 1) ∙ le-leb (0 * 1 * d) (a * 1) (least a d)
  where
    least : (a d : ℕ) → 0 * 1 * d ≤ a * 1
    least a d = omega arith

and-true : (b : Bool) → (b && true) ≡ b
and-true true = refl
and-true false = refl

plain : (m : ℕ) (e : ℤ) (v : ℕ) → m * up e * parts ≡ v * down e → (le nought (fin false m e) && le (fin false m e) one) ≡ leb v parts
unfolding le
plain m e v h =
    ap (λ (t : Bool). t && le (fin false m e) one) (above-nought (m * up e) (down e))
    ∙ le_test (m * up e * 1) (1 * 1 * down e)
    ∙ at_most (m * up e) (down e) v parts (down_pos e) parts-pos h

negative : (m : ℕ) (e : ℤ) (v : ℕ) → m * up e * parts ≡ v * down e → (le nought (fin true m e) && le (fin true m e) one) ≡ (eqb v 0 && leb v parts)
unfolding le
negative m e v h =
    ap (λ (t : Bool). (eqb (0 * 1 * down e) (m * up e * 1) && eqb (0 * 1 * down e) 0) && t)
    (any (ltb 0 (m * up e * 1 + 1 * 1 * down e)) (eqb (m * up e * 1) (1 * 1 * down e) && eqb (m * up e * 1) 0) (pos_sum (m * up e) (down e) (down_pos e)))
    ∙ and-true (eqb (0 * 1 * down e) (m * up e * 1) && eqb (0 * 1 * down e) 0)
    ∙ at_least (m * up e) (down e) v parts (down_pos e) parts-pos h

pub judged : (x : Float) → T (fits binary64 x) → (le nought x && le x one) ≡ is_chance (bits x)
judged nan f = unfold le is_chance own spelt parts to_bits in refl
judged (inf true) f = unfold le is_chance own spelt parts to_bits in refl
judged (inf false) f = unfold le is_chance own spelt parts to_bits in refl
judged (fin false m e) f = plain m e (own (bits (fin false m e))) (reads (fin false m e) f tt).1 ∙ sym (chance-is false m e f)
judged (fin true m e) f = negative m e (own (bits (fin true m e))) (reads (fin true m e) f tt).1 ∙ sym (chance-is true m e f)
