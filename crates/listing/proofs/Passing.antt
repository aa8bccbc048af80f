-- Fans passed one after another: what was told of the first i, and what is told of the others, is what is told of all. Assumes nothing.
use mathlib.Core.Path.{◌≡◌, refl, sym, ap, ◌∙◌}
use mathlib.Core.Bool.{Bool, true, false, cond}
use mathlib.Core.List.{List, [], ◌∷◌, ◌++◌, append_assoc, append-nil}
use Prim.Native.Nat.{ℕ, suc, ◌+◌, ◌≤◌, ◌<◌}
use native.Mathlib.Numerals.{add-one}
use lib.ListN.{length, get_or, drop}
use lib.Seq.{drop-cons}
use borrow.Author.Tests.{eq-eqb, ne_eqb, lt-ltb, le-ltb}
use Rattle.text.specs.Decimal.{decimal}
use Rattle.grammar.specs.Text.{Fault, fault_at, no_such_board, unplaced}
use Rattle.typed_lists.specs.declared.told.Told.{Told}
use Rattle.listing.specs.declared.ending.ToldLast.{ToldLast}
use Rattle.typed_lists.specs.Told.{Roomy, MoreTold}
use Rattle.listing.specs.Ending.{is_unplaced, PassedFan}
use Rattle.typed_lists.proofs.Telling.{told_none, told-then}
use Rattle.listing.proofs.Ends.{beyond}

pub record Passing (g : ℕ) (boards lines : List ℕ) (before : Told) (out : List ℕ) (after : ToldLast) (then : List ℕ) (i : ℕ) : Type 0 where
  pub done : List Fault
  pub rest : unplaced g 0 boards lines ≡ done ++ unplaced g after.line (drop i boards) (drop i lines)
  pub told : MoreTold before out after.told then done

pub passing-none : (g : ℕ) (boards lines : List ℕ) (t : Told) (out : List ℕ) → Roomy t out → Passing g boards lines t out (record { told = t; line = 0 }) out 0
passing-none g boards lines t out room = record { done = []; rest = refl; told = told_none room }

one-passed : (test : Bool) (f : Fault) (g line last : ℕ) (boards lines : List ℕ)
    → cond test (f ∷ unplaced g line boards lines) (unplaced g last boards lines) ≡ cond test (f ∷ []) [] ++ unplaced g (cond test line last) boards lines
one-passed true f g line last boards lines = refl
one-passed false f g line last boards lines = refl

module _ {g : ℕ} {boards lines : List ℕ} {before : Told} {out : List ℕ} {i : ℕ} where
  pub passing-on : {p q : ToldLast} {mid then : List ℕ} → Passing g boards lines before out p mid i → i < length boards → i < length lines
      → PassedFan p mid q then g (get_or lines i 0) (get_or boards i 0) → Passing g boards lines before out q then (i + 1)
  unfolding unplaced
  passing-on {p} {q} x l m f = record {
    done = x.done ++ new;
    rest =
        x.rest
        ∙ ap (λ y. x.done ++ y) (split ∙ one-passed test _ g (get_or lines i 0) p.line (drop (suc i) boards) (drop (suc i) lines))
        ∙ sym (append_assoc x.done new _)
        ∙ rw (f.line, add-one);
    told = told-then x.told f.told;
  }
    where
      test : Bool
      test = is_unplaced g p.line (get_or lines i 0) (get_or boards i 0)

      new : List Fault
      new = cond test (fault_at (get_or lines i 0) (decimal (get_or boards i 0)) no_such_board g ∷ []) []

      split : unplaced g p.line (drop i boards) (drop i lines)
          ≡ cond test (fault_at (get_or lines i 0) (decimal (get_or boards i 0)) no_such_board g ∷ unplaced g (get_or lines i 0) (drop (suc i) boards) (drop (suc i) lines)) (unplaced g p.line (drop (suc i) boards) (drop (suc i) lines))
      split = rw (drop-cons boards i 0 l, drop-cons lines i 0 m)

  pub passing-all : {p : ToldLast} {then : List ℕ} → Passing g boards lines before out p then i → length boards ≤ i → MoreTold before out p.told then (unplaced g 0 boards lines)
  unfolding unplaced
  passing-all x l = rw (x.rest, beyond i boards l, append-nil x.done) x.told

-- whether a fan is told, test by test
module _ (g told line board : ℕ) where
  pub placed : board ≤ g → is_unplaced g told line board ≡ false
  placed h = rw (le-ltb g board h)

  pub told-already : g < board → line ≡ told → is_unplaced g told line board ≡ false
  told-already h e = rw (lt-ltb g board h, eq-eqb line told e)

  pub not_yet : g < board → (line ≡ told → ⊥) → is_unplaced g told line board ≡ true
  not_yet h n = rw (lt-ltb g board h, ne_eqb line told n)
