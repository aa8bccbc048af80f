-- What is known of the row that takes a word, and what holds of each row by one test that is computed over all of them. Assumes nothing.
use mathlib.Core.Path.{◌≡◌, refl, sym, ap, ◌∙◌}
use mathlib.Core.Bool.{Bool, true, false, cond, not, true≢false, ◌&&◌, ◌||◌}
use mathlib.Core.List.{List}
use Prim.Native.Nat.{ℕ, zero, suc, ◌+◌, ◌≤◌, ◌<◌}
use native.Mathlib.Omega.{arith}
use lib.Dec.{eqb, leb, ltb}
use lib.ListN.{length, get_or, set}
use lib.Seq.{get_or-set_same, get_or-set_other}
use borrow.Author.Tests.{eqb-true, leb-true, ltb-true}
use Rattle.rules.specs.Below.{within, some, first}
use Rattle.rules.proofs.Windows.{some-none}
use Rattle.rules.proofs.Lowest.{there-or-not}
use Rattle.grammar.specs.Numbers.{letters_on}
use Rattle.grammar.specs.Grammar.{sets, taken, reading, rows, grammar}
use Rattle.grammar.specs.Line.{cell, takes, row_for, place_after}

pub both : (a b : Bool) → a && b ≡ true → (a ≡ true) × (b ≡ true)
both true b e = (refl, e)
both false b e = absurd (true≢false (sym e))

pub either : (a b : Bool) → not a || b ≡ true → a ≡ true → b ≡ true
either true b e h = e
either false b e h = absurd (true≢false (sym h))

pub all-rows : (p : ℕ → Bool) → some (λ i. not (p i)) rows ≡ false → (i : ℕ) → i < rows → p i ≡ true
all-rows p e i l = go (p i) refl
  where
    go : (b : Bool) → p i ≡ b → b ≡ true
    go true f = refl
    go false f = absurd ((some-none (λ k. not (p k)) rows).0 e i l (ap not f))

-- each row sets a number that there is
pub set-few : (i : ℕ) → i < rows → cell i 4 < sets
unfolding some grammar letters_on
set-few i l = ltb-true (cell i 4) sets (all-rows (λ k. ltb (cell k 4) sets) refl i l)

-- what is found first is found
found-holds : (p : ℕ → Bool) (k : ℕ) → first p k < k → p (first p k) ≡ true
unfolding first
found-holds p zero l = absurd (omega arith)
found-holds p (suc k) l = go (some p k) (p k) refl refl (found-holds p k) l
  where
    go : (a b : Bool) → some p k ≡ a → p k ≡ b → (first p k < k → p (first p k) ≡ true) → cond a (first p k) (cond b k (suc k)) < suc k → p (cond a (first p k) (cond b k (suc k))) ≡ true
    go true b e f ih h = ih (ltb-true (first p k) k (there-or-not p k ∙ e))
    go false true e f ih h = f
    go false false e f ih h = absurd (omega arith)

module _ (version place : ℕ) (word : List ℕ) where
  pub place_out : ltb (row_for version place word) rows ≡ false → place_after version place word ≡ taken + place
  unfolding place_after
  place_out q = rw q

  abbrev row : ℕ
  row = row_for version place word

  abbrev read : ℕ
  read = reading version (cell row 1) word

  module _ (l : row < rows) where
    fits : takes version place word row ≡ true
    unfolding row_for
    fits = found-holds (takes version place word) rows l

    pub here : cell row 0 ≡ place
    here = eqb-true (cell row 0) place (both (eqb (cell row 0) place) (within (cell row 2) read (cell row 3)) fits).0

    pub between : (cell row 2 ≤ read) × (read ≤ cell row 3)
    between =
        let b = both (leb (cell row 2) read) (leb read (cell row 3)) (both (eqb (cell row 0) place) (within (cell row 2) read (cell row 3)) fits).1 in
        (leb-true (cell row 2) read b.0, leb-true read (cell row 3) b.1)

-- what stands at a number after one is set
module _ (x : List ℕ) (long : length x ≡ sets) (j v : ℕ) where
  pub set_here : (k : ℕ) → j ≡ k → k < sets → get_or (set x j v) k 0 ≡ v
  set_here k e h = ap (λ i. get_or (set x i v) k 0) e ∙ get_or-set_same x k v 0 (omega (arith, long))

  pub set_there : (k : ℕ) → (k ≡ j → ⊥) → get_or (set x j v) k 0 ≡ get_or x k 0
  set_there k h = get_or-set_other x j k v 0 h
