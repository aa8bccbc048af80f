-- What is put in words is read back: a number's decimal digits are one word, and are read as the number. Digit by digit, whatever stands behind them. Assumes
-- nothing.
use mathlib.Core.Path.{◌≡◌, refl, sym, ap, ◌∙◌}
use mathlib.Core.Bool.{Bool, true, false, cond}
use mathlib.Core.List.{List, [], ◌∷◌, ◌++◌, append_assoc, append-nil}
use Prim.Native.Nat.{ℕ, zero, suc, ◌+◌, ◌*◌, ◌-◌, ◌/◌, ◌%◌, ◌^◌, ◌<◌}
use native.Mathlib.Decide.{dec_lt}
use native.Mathlib.Omega.{arith}
use lib.Dec.{ltb}
use lib.ListN.{length, length-append}
use borrow.Author.Tests.{ne_eqb, lt-ltb, le-ltb, le-leb}
use Rattle.text.specs.Decimal.{text, digits_in, most_digits, decimal}
use Rattle.text.specs.Lines.{named}
use Rattle.grammar.specs.Words.{closed, words_on, words_of}
use Rattle.grammar.specs.Numbers.{none, digits_on, whole}

module _ (d : ℕ) (small : d < 10) where
  -- a digit more of a number, and of a word
  one-digit : (so_far : ℕ) (rest : List ℕ) → so_far * 10 + d < none → digits_on so_far ((48 + d) ∷ rest) ≡ digits_on (so_far * 10 + d) rest
  unfolding digits_on
  one-digit so_far rest h =
      let e : 48 + d - 48 ≡ d = omega arith in
      rw (le-leb 48 (48 + d) (omega arith), le-leb (48 + d) 57 (omega arith), e, lt-ltb (so_far * 10 + d) none h)

  one-letter : (so_far rest : List ℕ) → words_on so_far ((48 + d) ∷ rest) ≡ words_on (so_far ++ ((48 + d) ∷ [])) rest
  unfolding words_on
  one-letter so_far rest =
      rw (ne_eqb (48 + d) 35 (λ e. omega arith), ne_eqb (48 + d) 32 (λ e. omega arith), ne_eqb (48 + d) 9 (λ e. omega arith), ne_eqb (48 + d) 13 (λ e. omega arith))

single-back : (most n : ℕ) (rest : List ℕ) → n < 10 → digits_on 0 (digits_in (suc most) n ++ rest) ≡ digits_on n rest
unfolding digits_in
single-back most n rest l =
    let e : 0 * 10 + n ≡ n = omega arith in
    rw (lt-ltb n 10 l) (one-digit n l 0 rest (omega arith) ∙ ap (λ k. digits_on k rest) e)

digits-back : (most n : ℕ) (rest : List ℕ) → n < 10 ^ suc most → n < none → digits_on 0 (digits_in (suc most) n ++ rest) ≡ digits_on n rest
unfolding digits_in
digits-back zero n rest h fits = single-back zero n rest (omega arith)
digits-back (suc most) n rest h fits =
    elim (dec_lt n 10) [
      | yes l ↦ single-back (suc most) n rest l
      | no g ↦
          let e : n / 10 * 10 + n % 10 ≡ n = omega arith in
          rw (le-ltb n 10 (omega arith))
          (ap (digits_on 0) (append_assoc (digits_in (suc most) (n / 10)) ((48 + n % 10) ∷ []) rest)
          ∙ digits-back most (n / 10) ((48 + n % 10) ∷ rest) (omega arith) (omega arith)
          ∙ one-digit (n % 10) (omega arith) (n / 10) rest (omega arith)
          ∙ ap (λ k. digits_on k rest) e)
    ]

pub some-digit : (most n : ℕ) → 0 < length (digits_in (suc most) n)
unfolding digits_in
some-digit most n = go (ltb n 10)
  where
    go : (b : Bool) → 0 < length (cond b ((48 + n) ∷ []) (digits_in most (n / 10) ++ ((48 + n % 10) ∷ [])))
    go true = omega arith
    go false = simp length-append (omega arith)

-- a number below 2^32 is read from its digits
pub whole_back : (n : ℕ) → n < none → whole (decimal n) ≡ n
unfolding whole digits_on
whole_back n h =
    rw (ne_eqb (length (decimal n)) 0 (λ e. omega (arith, some-digit 19 n)))
    (ap (digits_on 0) (sym (append-nil (decimal n))) ∙ digits-back 19 n [] (omega arith) h)

digits-word : (most n : ℕ) (so_far rest : List ℕ) → words_on so_far (digits_in most n ++ rest) ≡ words_on (so_far ++ digits_in most n) rest
unfolding digits_in
digits-word zero n so_far rest = ap (λ w. words_on w rest) (sym (append-nil so_far))
digits-word (suc most) n so_far rest =
    let before = digits_in most (n / 10) in
    let last = (48 + n % 10) ∷ [] in
    elim (dec_lt n 10) [
      | yes l ↦ rw (lt-ltb n 10 l) (one-letter n l so_far rest)
      | no g ↦
          rw (le-ltb n 10 (omega arith))
          (ap (words_on so_far) (append_assoc before last rest)
          ∙ digits-word most (n / 10) so_far ((48 + n % 10) ∷ rest)
          ∙ one-letter (n % 10) (omega arith) (so_far ++ before) rest
          ∙ ap (λ w. words_on w rest) (append_assoc so_far before last))
    ]

pub closed_some : (w : List ℕ) (rest : List (List ℕ)) → 0 < length w → closed w rest ≡ w ∷ rest
closed_some [] rest l = absurd (omega arith)
closed_some (b ∷ w) rest l = refl

-- a number is one word, before a blank and at a line's end
module _ (n : ℕ) where
  pub number_word : (rest : List ℕ) → words_on [] (decimal n ++ (32 ∷ rest)) ≡ decimal n ∷ words_on [] rest
  unfolding words_on
  number_word rest = digits-word most_digits n [] (32 ∷ rest) ∙ closed_some (decimal n) (words_on [] rest) (some-digit 19 n)

  pub last_word : words_on [] (decimal n) ≡ decimal n ∷ []
  unfolding words_on
  last_word =
      ap (words_on []) (sym (append-nil (decimal n))) ∙ digits-word most_digits n [] [] ∙ closed_some (decimal n) [] (some-digit 19 n)

-- the words of a version's line and of a board's
pub version-words : (version : ℕ) → words_of (named (text "version ") version) ≡ text "version" ∷ decimal version ∷ []
unfolding words_on
version-words version = ap (λ ws. text "version" ∷ ws) (last_word version)

pub board-words : (parts : ℕ) → words_of (named (text "board ") parts) ≡ text "board" ∷ decimal parts ∷ []
unfolding words_on
board-words parts = ap (λ ws. text "board" ∷ ws) (last_word parts)
