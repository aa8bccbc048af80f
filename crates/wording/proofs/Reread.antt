-- A board's line in words, read as a line of a text, adds that board: by its two words, row by row of the grammar. Assumes nothing.
use mathlib.Core.Path.{◌≡◌, refl, ap, ◌∙◌}
use mathlib.Core.Bool.{Bool, true, false}
use mathlib.Core.List.{List, [], ◌∷◌}
use Prim.Native.Nat.{ℕ, ◌+◌, ◌<◌}
use native.Mathlib.Omega.{arith}
use lib.ListN.{length, replicate, length-append}
use borrow.Author.Tests.{ne_eqb, le-ltb, le-leb}
use Rattle.rules.specs.Below.{first, some}
use Rattle.rules.specs.Refusal.{most_boards}
use Rattle.rules.proofs.Lowest.{found}
use Rattle.text.specs.Decimal.{text, decimal}
use Rattle.text.specs.Lines.{named}
use Rattle.text.proofs.Digits.{decimal-short}
use Rattle.grammar.specs.Numbers.{letters_on, none, parts}
use Rattle.grammar.specs.Grammar.{sets, reading, rows, grammar}
use Rattle.grammar.specs.Line.{takes, row_for, place_after, set_after, start_of, walk, read_line}
use Rattle.grammar.specs.Text.{longest_line, Listed, counted, with_board, added, thing, wordy, with_line}
use Rattle.wording.proofs.Back.{whole_back, board-words}

-- a whole number is read as so many parts
parts-back : (p : ℕ) → p < none → parts 3 (decimal p) ≡ p
unfolding parts
parts-back p h =
    let e = whole_back p h in
    rw (e, ne_eqb p none (λ same. omega arith))

-- `board` leads to its number, and sets nothing yet
starts : (begun : Bool) → (place_after 3 (start_of begun) (text "board") ≡ 11) × (set_after 3 (start_of begun) (text "board") (replicate sets 0) ≡ replicate sets 0)
unfolding first some reading grammar letters_on row_for place_after set_after
starts true = (refl, refl)
starts false = (refl, refl)

-- the line's end
ends : row_for 3 12 [] ≡ 28
unfolding first some reading grammar letters_on row_for
ends = refl

module _ (w : List ℕ) (p : ℕ) (read : parts 3 w ≡ p) (h : p < none) where
  takes-parts : takes 3 11 w 26 ≡ true
  unfolding reading grammar letters_on
  takes-parts = rw (read, le-leb 0 p (omega arith), le-leb p 4294967295 (omega arith))

  parts-row : row_for 3 11 w ≡ 26
  unfolding some row_for grammar letters_on
  parts-row = found (takes 3 11 w) rows 26 (omega arith) refl takes-parts

  adds : (s : Listed) (word : List ℕ) → length s.switchboards < most_boards → thing s word (walk 3 11 (replicate sets 0) (w ∷ [])) ≡ with_board s p
  unfolding walk place_after set_after reading grammar letters_on thing added
  adds s word room = rw (parts-row, ends, read, le-ltb most_boards (length s.switchboards + 1) (omega arith))

reads : (version : ℕ) (begun : Bool) (p : ℕ) → version ≡ 3 → read_line version begun (named (text "board ") p) ≡ walk 3 11 (replicate sets 0) (decimal p ∷ [])
unfolding read_line walk
reads version begun p is = rw (is, board-words p, (starts begun).0, (starts begun).1)

pub board-back : (s : Listed) (p : ℕ) → s.version ≡ 3 → p < none → length s.switchboards < most_boards
    → with_line s (named (text "board ") p) ≡ with_board (counted s true) p
unfolding with_line wordy
board-back s p is h room =
    let line = named (text "board ") p in
    let w = decimal p in
    let short = le-ltb longest_line (length line) (omega (arith, length-append (text "board ") w, decimal-short p)) in
    rw short
    (ap (wordy s line) (board-words p)
    ∙ ap (thing (counted s true) (text "board")) (reads s.version s.begun p is)
    ∙ adds w p (parts-back p h) h (counted s true) (text "board") room)
