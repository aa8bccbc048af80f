-- A line of words with blanks between them has those words, and a newline ends it: byte by byte, none of a plain word's is a blank, a comment or a newline. Assumes
-- nothing.
use mathlib.Core.Path.{◌≡◌, refl, sym, ap, ◌∙◌}
use mathlib.Core.Bool.{Bool, true, false, cond, not, ◌&&◌}
use mathlib.Core.List.{List, [], ◌∷◌, ◌++◌, append_assoc, append-nil}
use Prim.Native.Nat.{ℕ, zero, suc, ◌+◌, ◌/◌, ◌%◌, ◌<◌}
use native.Mathlib.Decide.{dec_lt}
use native.Mathlib.Omega.{arith}
use lib.Dec.{eqb}
use lib.ListN.{length}
use borrow.Author.Tests.{ne_eqb, lt-ltb, le-ltb}
use Rattle.text.specs.Decimal.{digits_in, decimal}
use Rattle.grammar.specs.Words.{newline, comment, blank, closed, lines_on, lines_of, words_on, words_of}
use Rattle.wording.proofs.Back.{some-digit, closed_some}

-- a byte of a word
abbrev pub plain_byte : ℕ → Bool
plain_byte b = not (eqb b comment) && (not (blank b) && not (eqb b newline))

unfoldable pub clean : List ℕ → Bool
clean [] = true
clean (b ∷ w) = plain_byte b && clean w

pub record Plain (w : List ℕ) : Type 0 where
  pub bytes : clean w ≡ true
  pub some : 0 < length w

unfoldable pub AllPlain : List (List ℕ) → Type 0
AllPlain [] = Unit {0}
AllPlain (w ∷ ws) = Plain w × AllPlain ws

-- words, each behind a blank
unfoldable pub spaced : List (List ℕ) → List ℕ
spaced [] = []
spaced (w ∷ ws) = 32 ∷ (w ++ spaced ws)

pub spaced-more : (xs ys : List (List ℕ)) → spaced (xs ++ ys) ≡ spaced xs ++ spaced ys
unfolding spaced
spaced-more [] ys = refl
spaced-more (x ∷ xs) ys = ap (λ t. 32 ∷ t) (ap (λ t. x ++ t) (spaced-more xs ys) ∙ sym (append_assoc x (spaced xs) (spaced ys)))

pub all_more : (xs ys : List (List ℕ)) → AllPlain xs → AllPlain ys → AllPlain (xs ++ ys)
unfolding AllPlain
all_more [] ys p q = q
all_more (x ∷ xs) ys p q = (p.0, all_more xs ys p.1 q)

-- what a plain byte is not
both : (a b : Bool) → a && b ≡ true → (a ≡ true) × (b ≡ true)
both true true e = (refl, refl)
both true false e = (refl, e)
both false b e = (e, absurd (no e))
  where
    no : false ≡ true → ⊥
    no z = let k : ◌≡◌ {A = ℕ} 0 1 = ap (λ t. cond t 1 0) z in omega arith

off : (a : Bool) → not a ≡ true → a ≡ false
off true e = sym e
off false e = refl

-- bytes of a word go on with it, and with its line
word_on : (w so_far rest : List ℕ) → clean w ≡ true → words_on so_far (w ++ rest) ≡ words_on (so_far ++ w) rest
unfolding clean words_on
word_on [] so_far rest e = ap (λ x. words_on x rest) (sym (append-nil so_far))
word_on (b ∷ w) so_far rest e =
    let one = both (plain_byte b) (clean w) e in
    let first = both (not (eqb b comment)) (not (blank b) && not (eqb b newline)) one.0 in
    let second = both (not (blank b)) (not (eqb b newline)) first.1 in
    ap (λ t. cond t (closed so_far []) (cond (blank b) (closed so_far (words_on [] (w ++ rest))) (words_on (so_far ++ (b ∷ [])) (w ++ rest)))) (off (eqb b comment) first.0)
    ∙ ap (λ t. cond t (closed so_far (words_on [] (w ++ rest))) (words_on (so_far ++ (b ∷ [])) (w ++ rest))) (off (blank b) second.0)
    ∙ word_on w (so_far ++ (b ∷ [])) rest one.1
    ∙ ap (λ x. words_on x rest) (append_assoc so_far (b ∷ []) w)

line_on : (w so_far rest : List ℕ) → clean w ≡ true → lines_on so_far (w ++ rest) ≡ lines_on (so_far ++ w) rest
unfolding clean lines_on
line_on [] so_far rest e = ap (λ x. lines_on x rest) (sym (append-nil so_far))
line_on (b ∷ w) so_far rest e =
    let one = both (plain_byte b) (clean w) e in
    let first = both (not (eqb b comment)) (not (blank b) && not (eqb b newline)) one.0 in
    let second = both (not (blank b)) (not (eqb b newline)) first.1 in
    ap (λ t. cond t (so_far ∷ lines_on [] (w ++ rest)) (lines_on (so_far ++ (b ∷ [])) (w ++ rest))) (off (eqb b newline) second.1)
    ∙ line_on w (so_far ++ (b ∷ [])) rest one.1
    ∙ ap (λ x. lines_on x rest) (append_assoc so_far (b ∷ []) w)

-- the words of a line
spaced-words : (so_far : List ℕ) (ws : List (List ℕ)) → 0 < length so_far → AllPlain ws → words_on so_far (spaced ws) ≡ (so_far ∷ ws)
unfolding spaced AllPlain words_on
spaced-words so_far [] l p = closed_some so_far [] l
spaced-words so_far (w ∷ ws) l p =
    closed_some so_far (words_on [] (w ++ spaced ws)) l
    ∙ ap (λ t. so_far ∷ t) (word_on w [] (spaced ws) p.0.bytes ∙ spaced-words w ws p.0.some p.1)

pub phrase-words : (w : List ℕ) (ws : List (List ℕ)) → Plain w → AllPlain ws → words_of (w ++ spaced ws) ≡ (w ∷ ws)
phrase-words w ws p q = word_on w [] (spaced ws) p.bytes ∙ spaced-words w ws p.some q

-- a text that begins with such a line
spaced-line : (so_far : List ℕ) (ws : List (List ℕ)) (rest : List ℕ) → AllPlain ws → lines_on so_far (spaced ws ++ rest) ≡ lines_on (so_far ++ spaced ws) rest
unfolding spaced AllPlain lines_on
spaced-line so_far [] rest p = ap (λ x. lines_on x rest) (sym (append-nil so_far))
spaced-line so_far (w ∷ ws) rest p =
    ap (lines_on (so_far ++ (32 ∷ []))) (append_assoc w (spaced ws) rest)
    ∙ line_on w (so_far ++ (32 ∷ [])) (spaced ws ++ rest) p.0.bytes
    ∙ spaced-line ((so_far ++ (32 ∷ [])) ++ w) ws rest p.1
    ∙ ap (λ x. lines_on x rest) (append_assoc (so_far ++ (32 ∷ [])) w (spaced ws) ∙ append_assoc so_far (32 ∷ []) (w ++ spaced ws))

pub phrase-line : (w : List ℕ) (ws : List (List ℕ)) (rest : List ℕ) → Plain w → AllPlain ws
    → lines_of ((w ++ spaced ws) ++ newline ∷ rest) ≡ ((w ++ spaced ws) ∷ lines_of rest)
unfolding lines_on
phrase-line w ws rest p q =
    ap lines_of (append_assoc w (spaced ws) (newline ∷ rest))
    ∙ line_on w [] (spaced ws ++ newline ∷ rest) p.bytes
    ∙ spaced-line w ws (newline ∷ rest) q

-- a number is a plain word
clean-more : (a b : List ℕ) → clean a ≡ true → clean b ≡ true → clean (a ++ b) ≡ true
unfolding clean
clean-more [] b p q = q
clean-more (x ∷ a) b p q =
    let one = both (plain_byte x) (clean a) p in
    ap (λ t. t && clean (a ++ b)) one.0 ∙ clean-more a b one.1 q

clean-digit : (d : ℕ) → d < 10 → clean ((48 + d) ∷ []) ≡ true
unfolding clean
clean-digit d l =
    rw (ne_eqb (48 + d) 35 (λ e. omega arith), ne_eqb (48 + d) 32 (λ e. omega arith), ne_eqb (48 + d) 9 (λ e. omega arith), ne_eqb (48 + d) 13 (λ e. omega arith), ne_eqb (48 + d) 10 (λ e. omega arith))

clean-digits : (most n : ℕ) → clean (digits_in most n) ≡ true
unfolding digits_in clean
clean-digits zero n = refl
clean-digits (suc most) n =
    elim (dec_lt n 10) [
      | yes l ↦ rw (lt-ltb n 10 l) (clean-digit n l)
      | no g ↦ rw (le-ltb n 10 (omega arith)) (clean-more (digits_in most (n / 10)) ((48 + n % 10) ∷ []) (clean-digits most (n / 10)) (clean-digit (n % 10) (omega arith)))
    ]

pub plain-number : (n : ℕ) → Plain (decimal n)
plain-number n = record { bytes = clean-digits 20 n; some = some-digit 19 n }
