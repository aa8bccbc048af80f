-- What a line sets is within its slot's bound: each row sets within it, by a test that is computed over the rows, once. Assumes nothing.
use mathlib.Core.Path.{◌≡◌, refl, sym, ap}
use mathlib.Core.Bool.{Bool, true, false, cond}
use mathlib.Core.List.{List, [], ◌∷◌}
use Prim.Native.Nat.{ℕ, zero, suc, ◌≤◌, ◌<◌}
use native.Mathlib.Omega.{arith}
use lib.Dec.{eqb, leb, ltb}
use lib.ListN.{get_or, set, replicate, length-set}
use borrow.Author.Tests.{eqb-true, eqb-false, leb-true, ltb-true}
use Rattle.rules.specs.Below.{some}
use Rattle.grammar.specs.Words.{words_of}
use Rattle.grammar.specs.Numbers.{letters_on}
use Rattle.grammar.specs.Grammar.{as_number, sets, most_set, reading, rows, grammar}
use Rattle.grammar.specs.Line.{cell, row_for, value_by, place_after, set_after, goes_on, start_of, stopped, walk, read_line}
use Rattle.grammar.specs.Reads.{Within}
use Rattle.grammar.proofs.Rows.{all-rows, set-few, between, set_here, set_there}

abbrev most : ℕ → ℕ
most i = cond (ltb (cell i 1) as_number) (cell i 5) (cell i 3)

most-within : (i : ℕ) → i < rows → most i ≤ get_or most_set (cell i 4) 0
unfolding some grammar letters_on
most-within i l = leb-true (most i) (get_or most_set (cell i 4) 0) (all-rows (λ k. leb (most k) (get_or most_set (cell k 4) 0)) refl i l)

value-most : (version place : ℕ) (word : List ℕ) → row_for version place word < rows → value_by version (row_for version place word) word ≤ most (row_for version place word)
value-most version place word l = go (ltb (cell i 1) as_number)
  where
    i : ℕ
    i = row_for version place word

    go : (b : Bool) → cond b (cell i 5) (reading version (cell i 1) word) ≤ cond b (cell i 5) (cell i 3)
    go true = omega arith
    go false = (between version place word l).1

within-set : (x : List ℕ) → Within x → (j v : ℕ) → j < sets → v ≤ get_or most_set j 0 → Within (set x j v)
within-set x w j v l h = record { long = rw (length-set x j v) w.long; small = λ k. go k (eqb j k) refl }
  where
    go : (k : ℕ) (b : Bool) → eqb j k ≡ b → get_or (set x j v) k 0 ≤ get_or most_set k 0
    go k true q =
        let e = eqb-true j k q in
        let s = set_here x w.long j v k e (omega (arith, e)) in
        omega (arith, s, h, ap (λ i. get_or most_set i 0) e)
    go k false q = rw (set_there x w.long j v k (λ e. eqb-false j k q (sym e))) (w.small k)

module _ (version : ℕ) where
  within-after : (place : ℕ) (word x : List ℕ) → Within x → Within (set_after version place word x)
  unfolding set_after
  within-after place word x w = go (ltb i rows) refl
    where
      i : ℕ
      i = row_for version place word

      go : (b : Bool) → ltb i rows ≡ b → Within (cond b (set x (cell i 4) (value_by version i word)) x)
      go true q =
          let l = ltb-true i rows q in
          within-set x w (cell i 4) (value_by version i word) (set-few i l) (omega (arith, value-most version place word l, most-within i l))
      go false q = w

  within-walk : (words : List (List ℕ)) (place : ℕ) (x : List ℕ) → Within x → Within (walk version place x words).set
  unfolding walk
  within-walk [] place x w = within-after place [] x w
  within-walk (word ∷ words) place x w =
      go (goes_on (place_after version place word)) (within-walk words (place_after version place word) (set_after version place word x) after)
    where
      after : Within (set_after version place word x)
      after = within-after place word x w

      go : (b : Bool) → Within (walk version (place_after version place word) (set_after version place word x) words).set
          → Within (cond b (walk version (place_after version place word) (set_after version place word x) words) (stopped (place_after version place word) word (set_after version place word x))).set
      go true h = h
      go false h = after

zero-at : (n k : ℕ) → ◌≡◌ {A = ℕ} (get_or (replicate n 0) k 0) 0
zero-at zero k = refl
zero-at (suc n) zero = refl
zero-at (suc n) (suc k) = zero-at n k

pub within-line : (version : ℕ) (begun : Bool) (line : List ℕ) → Within (read_line version begun line).set
unfolding read_line
within-line version begun line =
    within-walk version (words_of line) (start_of begun) (replicate sets 0) (record { long = refl; small = λ k. rw (zero-at sets k) (omega arith) })
