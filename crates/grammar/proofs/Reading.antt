-- A word's numbers, byte by byte: its letters, its digits, where its point stands; and that none is above `none`. Assumes nothing.
use mathlib.Core.Path.{◌≡◌, refl, ap, ◌∙◌}
use mathlib.Core.Bool.{Bool, true, false, cond, ◌&&◌}
use mathlib.Core.List.{List}
use Prim.Native.Nat.{ℕ, suc, ◌+◌, ◌≤◌, ◌<◌}
use native.Mathlib.Omega.{arith}
use lib.Dec.{leb}
use lib.ListN.{length, get_or, drop}
use lib.Seq.{drop-cons, drop-length}
use borrow.Author.Tests.{eq-eqb, ne_eqb, leb-true}
use Rattle.grammar.specs.Numbers.{with_letter, letters_on, none, digit, with_digit, digits_on, whole, point_in}

-- a digit's byte
pub digit-range : (b : ℕ) → digit b ≡ true → (48 ≤ b) × (b ≤ 57)
digit-range b e = go (leb 48 b) (leb b 57) refl refl e
  where
    go : (x y : Bool) → leb 48 b ≡ x → leb b 57 ≡ y → x && y ≡ true → (48 ≤ b) × (b ≤ 57)
    go true true p q h = (leb-true 48 b p, leb-true b 57 q)
    go true false p q h = (leb-true 48 b p, leb-true b 57 (q ∙ h))
    go false y p q h = (leb-true 48 b (p ∙ h), absurd (false-true h))
      where
        false-true : false ≡ true → ⊥
        false-true e = let z : ◌≡◌ {A = ℕ} 0 1 = ap (λ t. cond t 1 0) e in omega arith

module _ (word : List ℕ) (i : ℕ) (l : i < length word) where
  pub letter-on : (n : ℕ) → letters_on n (drop i word) ≡ letters_on (with_letter n (get_or word i 0)) (drop (suc i) word)
  unfolding letters_on
  letter-on n = rw (drop-cons word i 0 l)

  pub digit-on : (n : ℕ) → digit (get_or word i 0) ≡ true → digits_on n (drop i word) ≡ digits_on (with_digit n (get_or word i 0)) (drop (suc i) word)
  unfolding digits_on
  digit-on n e = rw (drop-cons word i 0 l, e)

  pub digit-none : (n : ℕ) → digit (get_or word i 0) ≡ false → digits_on n (drop i word) ≡ none
  unfolding digits_on
  digit-none n e = rw (drop-cons word i 0 l, e)

  pub point-here : get_or word i 0 ≡ 46 → point_in (drop i word) ≡ 0
  unfolding point_in
  point-here e = rw (drop-cons word i 0 l, eq-eqb (get_or word i 0) 46 e)

  pub point-on : (get_or word i 0 ≡ 46 → ⊥) → point_in (drop i word) ≡ 1 + point_in (drop (suc i) word)
  unfolding point_in
  point-on h = rw (drop-cons word i 0 l, ne_eqb (get_or word i 0) 46 h)

module _ (word : List ℕ) (i : ℕ) (e : i ≡ length word) where
  pub letters-end : (n : ℕ) → letters_on n (drop i word) ≡ n
  unfolding letters_on
  letters-end n = rw (e, drop-length word)

  pub digits-end : (n : ℕ) → digits_on n (drop i word) ≡ n
  unfolding digits_on
  digits-end n = rw (e, drop-length word)

  pub point-end : point_in (drop i word) ≡ 0
  unfolding point_in
  point-end = rw (e, drop-length word)

pub whole-some : (word : List ℕ) → (length word ≡ 0 → ⊥) → whole word ≡ digits_on 0 word
unfolding whole
whole-some word h = rw (ne_eqb (length word) 0 h)
