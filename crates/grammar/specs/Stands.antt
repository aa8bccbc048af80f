-- Where words stand in a line: what the reader's functions leave.
use Rattle.std.specs.Prelude.{◌≡◌, true, false, ◌||◌, List, [], ◌∷◌, ℕ, ◌-◌, ◌≤◌, ◌<◌, eqb, length, get_or, take, drop}
use Rattle.grammar.specs.Words.{comment, blank, closed, words_on}

abbrev pub part : (line : List ℕ) (from upto : ℕ) → List ℕ
part line from upto = take (upto - from) (drop from line)

-- blanks passed over from `at` to r
pub record Skipped (line : List ℕ) (at r : ℕ) : Type 0 where
  pub low : at ≤ r
  pub high : r ≤ length line
  pub words : words_on [] (drop r line) ≡ words_on [] (drop at line)
  pub stops : r < length line → blank (get_or line r 0) ≡ false

-- what is no blank and no comment, likewise
pub record Passed (line : List ℕ) (at r : ℕ) : Type 0 where
  pub low : at ≤ r
  pub high : r ≤ length line
  pub words : words_on [] (drop at line) ≡ closed (part line at r) (words_on [] (drop r line))
  pub stops : r < length line → eqb (get_or line r 0) comment || blank (get_or line r 0) ≡ true

-- the next word from `at` on, and no more words where it is empty
pub record Spanned (line : List ℕ) (at from upto : ℕ) : Type 0 where
  pub low : at ≤ from
  pub mid : from ≤ upto
  pub high : upto ≤ length line
  pub some : from < upto → words_on [] (drop at line) ≡ part line from upto ∷ words_on [] (drop upto line)
  pub none : from ≡ upto → words_on [] (drop at line) ≡ []
