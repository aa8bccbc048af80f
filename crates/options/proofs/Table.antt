-- Words against the table's rows: byte by byte and row by row, what is passed has told nothing and the rest tells. What is heard stays within the table.
-- Assumes nothing.
use mathlib.Core.Path.{◌≡◌, refl, sym, ap, ◌∙◌}
use mathlib.Core.Bool.{true, false}
use mathlib.Core.List.{List, [], ◌∷◌}
use Prim.Native.Nat.{ℕ, zero, suc, ◌+◌, ◌-◌, ◌≤◌, ◌<◌}
use native.Mathlib.Omega.{arith}
use native.Mathlib.Numerals.{add-one}
use lib.ListN.{length, get_or}
use borrow.Author.Tests.{eq-eqb, ne_eqb}
use Rattle.options.specs.Words.{same_from, row_is, option_from}

-- a word's byte is the same whatever stands behind the word
pub in-word : (xs : List ℕ) (i d e : ℕ) → i < length xs → get_or xs i d ≡ get_or xs i e
in-word [] i d e h = absurd (omega arith)
in-word (x ∷ xs) zero d e h = refl
in-word (x ∷ xs) (suc i) d e h = in-word xs i d e (omega arith)

module _ (table : List ℕ) (from : ℕ) (word : List ℕ) where
  pub byte-same : (left j : ℕ) → get_or table (from + j) 0 ≡ get_or word j 32 → same_from (suc left) j table from word ≡ same_from left (suc j) table from word
  unfolding same_from
  byte-same left j e = rw (eq-eqb (get_or table (from + j) 0) (get_or word j 32) e)

  pub byte-other : (left j : ℕ) → (get_or table (from + j) 0 ≡ get_or word j 32 → ⊥) → same_from (suc left) j table from word ≡ false
  unfolding same_from
  byte-other left j h = rw (ne_eqb (get_or table (from + j) 0) (get_or word j 32) h)

  pub no_byte : (j : ℕ) → same_from zero j table from word ≡ true
  unfolding same_from
  no_byte j = refl

  pub next-same : (most j : ℕ) → j < most → get_or table (from + j) 0 ≡ get_or word j 32
      → same_from (most - (j + 1)) (j + 1) table from word ≡ same_from (most - j) j table from word
  next-same most j h e =
      let one : most - j ≡ suc (most - (j + 1)) = omega arith in
      ap (λ k. same_from (most - (j + 1)) k table from word) (add-one j)
      ∙ sym (byte-same (most - (j + 1)) j e)
      ∙ ap (λ k. same_from k j table from word) (sym one)

  pub next-other : (most j : ℕ) → j < most → (get_or table (from + j) 0 ≡ get_or word j 32 → ⊥) → same_from (most - j) j table from word ≡ false
  next-other most j h e =
      let one : most - j ≡ suc (most - (j + 1)) = omega arith in
      ap (λ k. same_from k j table from word) one ∙ byte-other (most - (j + 1)) j e

  pub none_left : (most j : ℕ) → most ≤ j → same_from (most - j) j table from word ≡ true
  none_left most j h = ap (λ k. same_from k j table from word) {y = 0} (omega arith) ∙ no_byte j

module _ (table word : List ℕ) where
  pub row_named : (left k : ℕ) → row_is table k word ≡ true → option_from (suc left) k table word ≡ k
  unfolding option_from
  row_named left k e = rw e

  pub row_other : (left k : ℕ) → row_is table k word ≡ false → option_from (suc left) k table word ≡ option_from left (suc k) table word
  unfolding option_from
  row_other left k e = rw e

  pub no_row : (k : ℕ) → option_from zero k table word ≡ k
  unfolding option_from
  no_row k = refl

  pub next-named : (rows k : ℕ) → k < rows → row_is table k word ≡ true → option_from (rows - k) k table word ≡ k
  next-named rows k h e =
      let one : rows - k ≡ suc (rows - (k + 1)) = omega arith in
      ap (λ n. option_from n k table word) one ∙ row_named (rows - (k + 1)) k e

  pub next-unnamed : (rows k : ℕ) → k < rows → row_is table k word ≡ false → option_from (rows - (k + 1)) (k + 1) table word ≡ option_from (rows - k) k table word
  next-unnamed rows k h e =
      let one : rows - k ≡ suc (rows - (k + 1)) = omega arith in
      ap (λ n. option_from (rows - (k + 1)) n table word) (add-one k)
      ∙ sym (row_other (rows - (k + 1)) k e)
      ∙ ap (λ n. option_from n k table word) (sym one)

  pub none_named : (rows k : ℕ) → rows ≤ k → option_from (rows - k) k table word ≡ k
  none_named rows k h = ap (λ n. option_from n k table word) {y = 0} (omega arith) ∙ no_row k
