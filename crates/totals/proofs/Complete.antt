-- No answer is left out of the totals: those of no kind, and of each kind those answered and those refused by 3, 4, 5 and 6, are together as many as there are
-- systems. An answer adds 1 to them: to those of no kind, or to one number of its own kind. Assumes nothing.
use mathlib.Core.Path.{◌≡◌, refl, sym, ap, ◌∙◌}
use mathlib.Core.Bool.{Bool, true, false, cond, not, ◌&&◌, false≢true}
use mathlib.Core.List.{List, [], ◌∷◌, ◌++◌}
use Prim.Native.Nat.{ℕ, zero, suc, ◌+◌, ◌-◌, ◌<◌}
use native.Mathlib.Decide.{dec_lt}
use native.Mathlib.Omega.{arith}
use lib.Dec.{eqb}
use lib.ListN.{length}
use borrow.Author.Tests.{eq-eqb, ne_eqb, le-leb, eqb-true}
use Rattle.rules.specs.declared.Rating.{Rating}
use Rattle.rules.specs.Below.{within, sum_below, list_below}
use Rattle.rules.specs.File.{count_in, file_refusal}
use Rattle.rules.proofs.EachKind.{within-true}
use Rattle.totals.specs.declared.tally.Tally.{Tally}
use Rattle.rules.specs.Refusal.{last_kind}
use Rattle.totals.specs.Season.{Single, chosen, single_in, singles_in, singles_from, decks_of, singles_of, is_range, refused_by, tally_of, other_of}
use Rattle.totals.specs.Plus.{one_if}
use Rattle.totals.proofs.Sorted.{Sorted, is-answered, by_three, by-four, by-five, by-six}
use Rattle.totals.proofs.Growing.{Fits, not-one, fits_in}

-- what a kind's totals have counted
abbrev pub counted_by : Tally → ℕ
counted_by t = t.answered + (t.refused.three + t.refused.four + t.refused.five + t.refused.six)

-- one more at a list's front
count-first : {A : Type 0} (test : A → Bool) (x : A) (xs : List A) → length (chosen test (x ∷ xs)) ≡ one_if (test x) + length (chosen test xs)
unfolding chosen
count-first test x xs = go (test x)
  where
    go : (b : Bool) → length (cond b (x ∷ chosen test xs) (chosen test xs)) ≡ one_if b + length (chosen test xs)
    go true = omega arith
    go false = omega arith

-- what an answer adds to a kind's
abbrev shares : (own : Bool) → Rating → ℕ
shares own a =
    one_if (own && is_range a) + (one_if (own && refused_by 3 a) + one_if (own && refused_by 4 a) + one_if (own && refused_by 5 a) + one_if (own && refused_by 6 a))

share-first : (kind : ℕ) (x : Single) (xs : List Single) → counted_by (tally_of kind (x ∷ xs)) ≡ shares (eqb x.kind kind) x.answer + counted_by (tally_of kind xs)
share-first kind x xs =
    let by : (number : ℕ) → length (chosen (λ y. eqb y.kind kind && refused_by number y.answer) (x ∷ xs)) ≡ one_if (eqb x.kind kind && refused_by number x.answer) + length (chosen (λ y. eqb y.kind kind && refused_by number y.answer) xs) =
    λ number. count-first (λ y. eqb y.kind kind && refused_by number y.answer) x xs in
    omega (arith, count-first (λ y. eqb y.kind kind && is_range y.answer) x xs, by 3, by 4, by 5, by 6)

-- its own kind, by what it was answered
own-share : (a : Rating) → Sorted a → shares true a ≡ 1
own-share a (is-answered low high) = refl
own-share a by_three = refl
own-share a by-four = refl
own-share a by-five = refl
own-share a by-six = refl

-- over all kinds
sum-plus : (n : ℕ) (f g h : ℕ → ℕ) → ((k : ℕ) → h k ≡ f k + g k) → sum_below n h ≡ sum_below n f + sum_below n g
unfolding sum_below
sum-plus zero f g h e = omega arith
sum-plus (suc n) f g h e = omega (arith, sum-plus n f g h e, e n)

sum-none : (n : ℕ) (f : ℕ → ℕ) → ((k : ℕ) → k < n → f k ≡ 0) → sum_below n f ≡ 0
unfolding sum_below
sum-none zero f e = refl
sum-none (suc n) f e = omega (arith, sum-none n f (λ k l. e k (omega arith)), e n (omega arith))

sum_one : (n at : ℕ) (f : ℕ → ℕ) → at < n → f at ≡ 1 → ((k : ℕ) → k < n → (k ≡ at → ⊥) → f k ≡ 0) → sum_below n f ≡ 1
unfolding sum_below
sum_one zero at f l one other = absurd (omega arith)
sum_one (suc n) at f l one other =
    elim (dec_lt at n) [
      | yes h ↦ omega (arith, sum_one n at f h one (λ k m. other k (omega arith)), other n (omega arith) (λ e. omega arith))
      | no g ↦
          let same : n ≡ at = omega arith in
          omega (arith, sum-none n f (λ k m. other k (omega arith) (λ e. omega arith)), ap f same ∙ one)
    ]

-- an answer adds 1
module _ (x : Single) (fits : Fits x) where
  abbrev share : ℕ → ℕ
  share k = shares (eqb x.kind (suc k)) x.answer

  not_own : (k : ℕ) → (x.kind ≡ suc k → ⊥) → share k ≡ 0
  not_own k other = rw (ne_eqb x.kind (suc k) other)

  adds_one : one_if (refused_by 1 x.answer) + sum_below last_kind share ≡ 1
  adds_one = go (within 1 x.kind last_kind) refl
    where
      out : (k : ℕ) → k < last_kind → within 1 (suc k) last_kind ≡ false → ⊥
      out k l e = false≢true (sym e ∙ rw (le-leb 1 (suc k) (omega arith), le-leb (suc k) last_kind (omega arith)))

      go : (b : Bool) → within 1 x.kind last_kind ≡ b → one_if (refused_by 1 x.answer) + sum_below last_kind share ≡ 1
      go true e =
          let i = within-true 1 x.kind last_kind e in
          let at = x.kind - 1 in
          let own : x.kind ≡ suc at = omega (arith, i) in
          let own-one : share at ≡ 1 = rw (eq-eqb x.kind (suc at) own) (own-share x.answer (fits.inside e)) in
          let all = sum_one last_kind at share (omega (arith, i)) own-one (λ k l apart. not_own k (λ z. apart (omega (arith, i, z)))) in
          rw (not-one x.answer (fits.inside e)) (omega (arith, all))
      go false e =
          let none = sum-none last_kind share (λ k l. not_own k (λ z. out k l (rw z at e))) in
          let one = ap (λ a. one_if (refused_by 1 a)) (fits.outside e) in
          omega (arith, none, one)

-- every one of a list fits
unfoldable AllFit : List Single → Type 0
AllFit [] = Unit {0}
AllFit (x ∷ xs) = Fits x × AllFit xs

fit_append : (xs ys : List Single) → AllFit xs → AllFit ys → AllFit (xs ++ ys)
unfolding AllFit
fit_append [] ys f g = g
fit_append (x ∷ xs) ys f g = (f.0, fit_append xs ys f.1 g)

fit-below : (n : ℕ) (f : ℕ → Single) → ((k : ℕ) → Fits (f k)) → AllFit (list_below n f)
unfolding list_below AllFit
fit-below zero f h = tt
fit-below (suc n) f h = fit_append (list_below n f) (f n ∷ []) (fit-below n f h) (h n, tt)

fit-from : (deck : ℕ) (files : List (List ℕ)) → AllFit (singles_from deck (decks_of files))
unfolding singles_from chosen AllFit
fit-from deck [] = tt
fit-from deck (file ∷ files) = go (eqb (file_refusal file) 0) refl (λ d. fit-from d files)
  where
    go : (b : Bool) → eqb (file_refusal file) 0 ≡ b → ((d : ℕ) → AllFit (singles_from d (decks_of files)))
        → AllFit (singles_from deck (cond (not (not b)) (file ∷ decks_of files) (decks_of files)))
    go true e later =
        fit_append (singles_in deck file) (singles_from (suc deck) (decks_of files)) (fit-below (count_in file) (single_in deck file) (fits_in deck file (eqb-true (file_refusal file) 0 e))) (later (suc deck))
    go false e later = later deck

none-counted : other_of [] + sum_below last_kind (λ k. counted_by (tally_of (suc k) [])) ≡ 0
unfolding chosen sum_below
none-counted = refl

all-counted : (xs : List Single) → AllFit xs → other_of xs + sum_below last_kind (λ k. counted_by (tally_of (suc k) xs)) ≡ length xs
unfolding AllFit
all-counted [] fit = none-counted
all-counted (x ∷ xs) fit =
    let sums = sum-plus last_kind (share x fit.0) (λ k. counted_by (tally_of (suc k) xs)) (λ k. counted_by (tally_of (suc k) (x ∷ xs))) (λ k. share-first (suc k) x xs) in
    omega (arith, sums, count-first (λ y. refused_by 1 y.answer) x xs, adds_one x fit.0, all-counted xs fit.1)

-- as many as there are systems in the decks read
pub none-lost : (files : List (List ℕ))
    → other_of (singles_of files) + sum_below last_kind (λ k. counted_by (tally_of (suc k) (singles_of files))) ≡ length (singles_of files)
none-lost files = all-counted (singles_of files) (fit-from 1 files)
