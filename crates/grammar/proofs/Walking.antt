-- A line's words, byte by byte: a blank is passed over, a letter makes the word longer, and at a blank, a comment or the line's end the word is closed. Assumes nothing.
use mathlib.Core.Path.{◌≡◌, refl, sym, ap, ◌∙◌}
use mathlib.Core.Logic.{◌⊎◌, inl, inr}
use mathlib.Core.Bool.{Bool, true, false, true≢false, ◌||◌}
use mathlib.Core.List.{List, [], ◌∷◌, ◌++◌}
use Prim.Native.Nat.{ℕ, suc, ◌+◌, ◌-◌, ◌≤◌, ◌<◌}
use native.Mathlib.Nat.{eq-or-lt_of_le}
use native.Mathlib.Omega.{arith}
use lib.Dec.{eqb}
use lib.ListN.{length, get_or, drop, length-drop}
use lib.Seq.{drop-cons, drop-length, take-suc, get_or-drop, length-take-le}
use borrow.Author.Tests.{ne_eqb}
use Rattle.grammar.specs.Words.{comment, blank, closed, words_on}
use Rattle.grammar.specs.Stands.{part, Skipped, Passed, Spanned}

not-comment : (b : ℕ) → blank b ≡ true → eqb b comment ≡ false
not-comment b e = ne_eqb b comment (λ h. true≢false (sym e ∙ ap blank h))

pub or-first : (x y : Bool) → x ≡ true → x || y ≡ true
or-first x y e = rw e

pub or-second : (x y : Bool) → y ≡ true → x || y ≡ true
or-second true y e = refl
or-second false y e = e

or-alone : (x y : Bool) → y ≡ false → x || y ≡ true → x ≡ true
or-alone true y f e = refl
or-alone false y f e = sym f ∙ e

pub closed_some : (w : List ℕ) (rest : List (List ℕ)) → 0 < length w → closed w rest ≡ w ∷ rest
closed_some [] rest l = absurd (omega arith)
closed_some (b ∷ w) rest l = refl

module _ (line : List ℕ) (i : ℕ) (l : i < length line) where
  pub skip-on : blank (get_or line i 0) ≡ true → words_on [] (drop (suc i) line) ≡ words_on [] (drop i line)
  unfolding words_on
  skip-on e = rw (drop-cons line i 0 l, not-comment _ e, e)

  pub part-more : (at : ℕ) → at ≤ i → part line at (suc i) ≡ part line at i ++ (get_or line i 0 ∷ [])
  part-more at h =
      let e : suc i - at ≡ suc (i - at) = omega arith in
      let f : at + (i - at) ≡ i = omega arith in
      let s : i - at < length (drop at line) = simp length-drop (omega arith) in
      rw (e, take-suc (drop at line) (i - at) 0 s, get_or-drop at line (i - at) 0, f)

  pub pass_on : (at : ℕ) → at ≤ i → eqb (get_or line i 0) comment ≡ false → blank (get_or line i 0) ≡ false
      → words_on (part line at i) (drop i line) ≡ words_on (part line at (suc i)) (drop (suc i) line)
  unfolding words_on
  pass_on at h n b = rw (part-more at h, drop-cons line i 0 l, n, b)

  at-comment : (w : List ℕ) → eqb (get_or line i 0) comment ≡ true → words_on w (drop i line) ≡ closed w (words_on [] (drop i line))
  unfolding words_on
  at-comment w e = rw (drop-cons line i 0 l, e)

  at-blank : (w : List ℕ) → blank (get_or line i 0) ≡ true → words_on w (drop i line) ≡ closed w (words_on [] (drop i line))
  unfolding words_on
  at-blank w e = rw (drop-cons line i 0 l, not-comment _ e, e)

  pub at-stop : (w : List ℕ) → eqb (get_or line i 0) comment || blank (get_or line i 0) ≡ true → words_on w (drop i line) ≡ closed w (words_on [] (drop i line))
  at-stop w e = go (eqb (get_or line i 0) comment) refl e
    where
      go : (b : Bool) → eqb (get_or line i 0) comment ≡ b → b || blank (get_or line i 0) ≡ true → words_on w (drop i line) ≡ closed w (words_on [] (drop i line))
      go true f h = at-comment w f
      go false f h = at-blank w h

  no_word : blank (get_or line i 0) ≡ false → eqb (get_or line i 0) comment || blank (get_or line i 0) ≡ true → words_on [] (drop i line) ≡ []
  unfolding words_on
  no_word b e = rw (drop-cons line i 0 l, or-alone (eqb (get_or line i 0) comment) (blank (get_or line i 0)) b e)

pub at-end : (line : List ℕ) (i : ℕ) (w : List ℕ) → i ≡ length line → words_on w (drop i line) ≡ closed w (words_on [] (drop i line))
unfolding words_on
at-end line i w e = rw (e, drop-length line)

no_more : (line : List ℕ) (i : ℕ) → i ≡ length line → words_on [] (drop i line) ≡ []
unfolding words_on
no_more line i e = rw (e, drop-length line)

pub spanned : (line : List ℕ) (at from upto : ℕ) → Skipped line at from → Passed line from upto → Spanned line at from upto
spanned line at from upto s p = record {
  low = s.low;
  mid = p.low;
  high = p.high;
  some = λ l. sym s.words ∙ p.words ∙ closed_some (part line from upto) _ (long l);
  none = λ e. sym s.words ∙ ends (eq-or-lt_of_le s.high) e;
}
  where
    long : from < upto → 0 < length (part line from upto)
    long l =
        let h : upto - from ≤ length (drop from line) = simp length-drop (omega (arith, p.high)) in
        rw (length-take-le (upto - from) (drop from line) h) (omega arith)

    ends : (from ≡ length line) ⊎ (from < length line) → from ≡ upto → words_on [] (drop from line) ≡ []
    ends (inr l) e = no_word line from l (s.stops l) (rw (← e) at (p.stops (rw e at l)))
    ends (inl e) h = no_more line from e
