-- How a word is read at a row, whether the row takes it, and what it leads to, test by test; the table is the grammar. Assumes nothing.
use mathlib.Core.Path.{◌≡◌, sym, ap, ◌∙◌}
use mathlib.Core.Bool.{false}
use mathlib.Core.List.{List}
use Prim.Native.Nat.{ℕ, ◌+◌, ◌*◌, ◌≤◌, ◌<◌}
use native.Mathlib.Omega.{arith}
use lib.Dec.{leb}
use lib.ListN.{get_or, set}
use borrow.Author.Tests.{eq-eqb, ne_eqb, lt-ltb, le-ltb, le-leb, lt-leb}
use Rattle.grammar.specs.Numbers.{letters_of, longer, whole, parts}
use Rattle.grammar.specs.Grammar.{as_parts, as_number, with_boards, taken, reading, rows, grammar}
use Rattle.grammar.specs.Line.{cell, takes, row_for, value_by, place_after, set_after}

module _ (version way : ℕ) (word : List ℕ) where
  pub read-parts : way ≡ as_parts → reading version way word ≡ parts version word
  unfolding reading
  read-parts e = rw (eq-eqb way as_parts e)

  module _ (p : way ≡ as_parts → ⊥) where
    pub read_number : way ≡ as_number → reading version way word ≡ whole word
    unfolding reading
    read_number e = rw (ne_eqb way as_parts p, eq-eqb way as_number e)

    module _ (n : way ≡ as_number → ⊥) where
      pub read-boardless : way ≡ with_boards → (version ≡ 3 → ⊥) → reading version way word ≡ longer
      unfolding reading
      read-boardless e v = rw (ne_eqb way as_parts p, ne_eqb way as_number n, eq-eqb way with_boards e, ne_eqb version 3 v)

      pub read-boards : way ≡ with_boards → version ≡ 3 → reading version way word ≡ letters_of word
      unfolding reading
      read-boards e v = rw (ne_eqb way as_parts p, ne_eqb way as_number n, eq-eqb way with_boards e, eq-eqb version 3 v)

      pub read_letters : (way ≡ with_boards → ⊥) → reading version way word ≡ letters_of word
      unfolding reading
      read_letters e = rw (ne_eqb way as_parts p, ne_eqb way as_number n, ne_eqb way with_boards e)

module _ (t : List ℕ) (is : t ≡ grammar) (i : ℕ) where
  pub cell-first : get_or t (i * 7) 0 ≡ cell i 0
  cell-first = rw is (ap (λ k. get_or grammar k 0) (omega arith))

  pub cell_at : (k : ℕ) → get_or t (i * 7 + k) 0 ≡ cell i k
  cell_at k = rw is

  module _ (version place : ℕ) (word : List ℕ) where
    pub other_place : (get_or t (i * 7) 0 ≡ place → ⊥) → takes version place word i ≡ false
    other_place h = rw (ne_eqb (cell i 0) place (λ e. h (cell-first ∙ e)))

    module _ (here : get_or t (i * 7) 0 ≡ place) (n : ℕ) (number : n ≡ reading version (get_or t (i * 7 + 1) 0) word) where
      read_here : reading version (cell i 1) word ≡ n
      read_here = ap (λ w. reading version w word) (sym (cell_at 1)) ∙ sym number

      pub below-least : n < get_or t (i * 7 + 2) 0 → takes version place word i ≡ false
      below-least h = rw (eq-eqb (cell i 0) place (sym cell-first ∙ here), read_here, lt-leb (cell i 2) n (rw (cell_at 2) at h))

      pub up-to-most : get_or t (i * 7 + 2) 0 ≤ n → leb n (get_or t (i * 7 + 3) 0) ≡ takes version place word i
      up-to-most h = rw (eq-eqb (cell i 0) place (sym cell-first ∙ here), read_here, le-leb (cell i 2) n (rw (cell_at 2) at h), cell_at 3)

  module _ (version : ℕ) (word : List ℕ) where
    pub value-own : get_or t (i * 7 + 1) 0 < as_number → get_or t (i * 7 + 5) 0 ≡ value_by version i word
    value-own h = rw (lt-ltb (cell i 1) as_number (rw (cell_at 1) at h), cell_at 5)

    pub value_read : (n : ℕ) → as_number ≤ get_or t (i * 7 + 1) 0 → n ≡ reading version (get_or t (i * 7 + 1) 0) word → n ≡ value_by version i word
    value_read n h e = rw (le-ltb (cell i 1) as_number (rw (cell_at 1) at h)) (e ∙ ap (λ w. reading version w word) (cell_at 1))

module _ (version place : ℕ) (word before : List ℕ) (row : ℕ) (is : row ≡ row_for version place word) where
  pub place_none : row ≡ rows → place_after version place word ≡ taken + place
  unfolding place_after
  place_none e = rw (← is, e)

  pub set-none : row ≡ rows → set_after version place word before ≡ before
  unfolding set_after
  set-none e = rw (← is, e)

  pub place-some : row < rows → place_after version place word ≡ cell row 6
  unfolding place_after
  place-some l = rw (← is, lt-ltb row rows l)

  pub set-some : row < rows → set_after version place word before ≡ set before (cell row 4) (value_by version row word)
  unfolding set_after
  set-some l = rw (← is, lt-ltb row rows l)
