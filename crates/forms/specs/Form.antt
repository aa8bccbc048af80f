-- A form is a text with marks, `#`. Filled in, each mark is the digits of a number, one number after another; a mark that no number is left for stays out.
use Rattle.std.specs.Prelude.{cond, List, [], ◌∷◌, ◌++◌, ℕ, suc, ◌+◌, ◌*◌, ◌≤◌, ltb, eqb, length, get_or}
use Rattle.text.specs.Decimal.{most_digits, decimal}
use Rattle.text.specs.Added.{Added}

abbrev pub mark : ℕ
mark = 35

-- so many numbers at most
abbrev pub most_marks : ℕ
most_marks = 6

-- the number at place k
abbrev pub mark_text : (numbers : List ℕ) (k : ℕ) → List ℕ
mark_text numbers k = cond (ltb k most_marks) (decimal (get_or numbers k 0)) []

-- a byte of a form, or for a mark that number; and the place of the next
abbrev pub part_text : (byte : ℕ) (numbers : List ℕ) (k : ℕ) → List ℕ
part_text byte numbers k = cond (eqb byte mark) (mark_text numbers k) (byte ∷ [])

abbrev pub next_place : (byte k : ℕ) → ℕ
next_place byte k = cond (eqb byte mark) (suc k) k

-- a form from a place of the numbers on, and the place where it ends
unfoldable pub filled_from : (k : ℕ) (form numbers : List ℕ) → List ℕ
filled_from k [] numbers = []
filled_from k (byte ∷ form) numbers = part_text byte numbers k ++ filled_from (next_place byte k) form numbers

unfoldable pub place_behind : (k : ℕ) (form : List ℕ) → ℕ
place_behind k [] = k
place_behind k (byte ∷ form) = place_behind (next_place byte k) form

abbrev pub form_text : (form numbers : List ℕ) → List ℕ
form_text form numbers = filled_from 0 form numbers

-- the room that it takes at most
abbrev pub form_room : (form : List ℕ) → ℕ
form_room form = length form + most_digits * most_marks

-- what is put ends within the buffer, and is the text where so much room was there
pub record PutText (text : List ℕ) (room : ℕ) (out : List ℕ) (at : ℕ) (after : List ℕ) (end : ℕ) : Type 0 where
  pub within : end ≤ length after
  pub added : at + room ≤ length out → Added text out at after end
