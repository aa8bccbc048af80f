-- A number where the grammar takes one: the first row of its place that takes it sets its slot and leads on. At two places a word of letters comes first, which no number
-- is. Assumes nothing.
use mathlib.Core.Path.{◌≡◌, sym, ap, ◌∙◌}
use mathlib.Core.Bool.{true, false, cond}
use mathlib.Core.List.{List, [], ◌∷◌, ◌++◌}
use Prim.Native.Nat.{ℕ, zero, suc, ◌+◌, ◌/◌, ◌%◌, ◌≤◌, ◌<◌}
use native.Mathlib.Decide.{dec_lt}
use native.Mathlib.Omega.{arith}
use lib.Dec.{ltb}
use lib.ListN.{set}
use borrow.Author.Tests.{eq-eqb, lt-ltb, le-ltb, le-leb, lt-leb}
use Rattle.rules.specs.Below.{some, within}
use Rattle.rules.proofs.Lowest.{found}
use Rattle.text.specs.Decimal.{digits_in, decimal}
use Rattle.grammar.specs.Numbers.{letters_of, longer, none, whole}
use Rattle.grammar.specs.Grammar.{as_number, reading, taken, rows}
use Rattle.grammar.specs.Line.{cell, takes, value_by, row_for, place_after, set_after, goes_on, walk}
use Rattle.grammar.proofs.Letters.{Bytes, one_word}
use Rattle.wording.proofs.Back.{whole_back}

-- by its row
module _ (version place row : ℕ) (w : List ℕ) (k : ℕ) (read : reading version (cell row 1) w ≡ k) (here : cell row 0 ≡ place) (low : cell row 2 ≤ k) (high : k ≤ cell row 3)
    (counts : ltb (cell row 1) as_number ≡ false) (l : row < rows) (no_other : some (takes version place w) row ≡ false) where
  row_is : row_for version place w ≡ row
  unfolding row_for
  row_is = found (takes version place w) rows row l no_other (rw (eq-eqb (cell row 0) place here, read, le-leb (cell row 2) k low, le-leb k (cell row 3) high))

  place_is : place_after version place w ≡ cell row 6
  unfolding place_after
  place_is = ap (λ i. cond (ltb i rows) (cell i 6) (taken + place)) row_is ∙ ap (λ b. cond b (cell row 6) (taken + place)) (lt-ltb row rows l)

  set_is : (before : List ℕ) → set_after version place w before ≡ set before (cell row 4) k
  unfolding set_after
  set_is before =
      ap (λ i. cond (ltb i rows) (set before (cell i 4) (value_by version i w)) before) row_is
      ∙ ap (λ b. cond b (set before (cell row 4) (value_by version row w)) before) (lt-ltb row rows l)
      ∙ ap (λ b. set before (cell row 4) (cond b (cell row 5) (reading version (cell row 1) w))) counts
      ∙ ap (set before (cell row 4)) read

  pub number_step : goes_on (cell row 6) ≡ true → (before : List ℕ) (words : List (List ℕ))
      → walk version place before (w ∷ words) ≡ walk version (cell row 6) (set before (cell row 4) k) words
  unfolding walk
  number_step on before words =
      (λ i. cond (goes_on (place_is i)) (walk version (place_is i) (set_is before i) words) (record { ended = place_is i; word = w; set = set_is before i }))
      ∙ ap (λ b. cond b (walk version (cell row 6) (set before (cell row 4) k) words) (record { ended = cell row 6; word = w; set = set before (cell row 4) k })) on

-- no number is a word of letters
bytes-more : (a b : List ℕ) → Bytes a → Bytes b → Bytes (a ++ b)
unfolding Bytes
bytes-more [] b p q = q
bytes-more (x ∷ a) b p q = (p.0, bytes-more a b p.1 q)

bytes-digits : (most n : ℕ) → Bytes (digits_in most n)
unfolding digits_in Bytes
bytes-digits zero n = tt
bytes-digits (suc most) n =
    elim (dec_lt n 10) [
      | yes l ↦ rw (lt-ltb n 10 l) (let z : 48 + n < 256 = omega arith in (z, tt))
      | no g ↦ rw (le-ltb n 10 (omega arith)) (bytes-more (digits_in most (n / 10)) ((48 + n % 10) ∷ []) (bytes-digits most (n / 10)) (let z : 48 + n % 10 < 256 = omega arith in (z, tt)))
    ]

apart : (L x : ℕ) → (x ≡ L → ⊥) → within L x L ≡ false
apart L x other =
    elim (dec_lt x L) [
      | yes l ↦ rw (lt-leb L x l)
      | no g ↦ rw (le-leb L x (omega arith), lt-leb x L (above (omega arith)))
    ]
  where
    above : L ≤ x → L < x
    above h =
        elim (dec_lt L x) [
          | yes y ↦ y
          | no g ↦ absurd (other (omega arith))
        ]

pub not-letters : (k : ℕ) (word : List ℕ) → k < none → Bytes word → letters_of word < longer → whole word ≡ none → within (letters_of word) (letters_of (decimal k)) (letters_of word) ≡ false
not-letters k word h bytes short is =
    apart (letters_of word) (letters_of (decimal k)) (λ same.
    let e = one_word word (decimal k) bytes (bytes-digits 20 k) (sym same) short in
    let z : none ≡ k = sym is ∙ ap whole e ∙ whole_back k h in
    omega arith)
