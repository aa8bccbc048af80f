-- deckstate(1), WORDS: a word names one by its number, some by a range as 3-7, or several of these with commas between them. A part that is none of these makes the
-- word wrong.
use Rattle.std.specs.Prelude.{true, false, cond, ◌&&◌, List, [], ◌∷◌, ◌++◌, ℕ, zero, suc, ◌+◌, ◌*◌, ◌-◌, eqb, ltb, length, take, drop}
use Rattle.rules.specs.Below.{within}
use Rattle.states.specs.States.{fan_failed}
use Rattle.naming.specs.declared.Named.{Named}

-- the most digits of a number
abbrev pub longest_number : ℕ
longest_number = 16

-- the number that decimal digits spell, "0" to "9" being the bytes 48 to 57; 0 where a byte is no digit, where there is none, or where there are too many
unfoldable pub spelled : (so_far : ℕ) → List ℕ → ℕ
spelled x [] = x
spelled x (c ∷ cs) = cond (within 48 c 57) (spelled (x * 10 + (c - 48)) cs) 0

abbrev pub number_in : (word : List ℕ) → ℕ
number_in word = cond (ltb longest_number (length word)) 0 (spelled 0 word)

-- the bytes "," and "-"
abbrev pub comma : ℕ
comma = 44

abbrev pub minus : ℕ
minus = 45

-- how many bytes stand before the first mark
unfoldable pub up_to : (mark : ℕ) → List ℕ → ℕ
up_to mark [] = 0
up_to mark (b ∷ bs) = cond (eqb b mark) 0 (suc (up_to mark bs))

-- a part: a number, or two with a minus between them
abbrev pub first_in : (part : List ℕ) → ℕ
first_in part = number_in (take (up_to minus part) part)

abbrev pub last_in : (part : List ℕ) → ℕ
last_in part = cond (ltb (up_to minus part) (length part)) (number_in (drop (suc (up_to minus part)) part)) (first_in part)

-- the state with so many fans failed too, from one on
unfoldable pub many_failed : (state from many : ℕ) → ℕ
many_failed state from zero = state
many_failed state from (suc k) = fan_failed (many_failed state from k) (from + k)

abbrev pub range_failed : (state from to : ℕ) → ℕ
range_failed state from to = many_failed state from (suc to - from)

abbrev pub fits : (state : ℕ) → Named
fits state = record { wrong = false; state = state }

abbrev pub fails : (state : ℕ) → Named
fails state = record { wrong = true; state = state }

-- on a deck of n fans; behind a part that is wrong nothing is looked at
unfoldable pub part_named : (n : ℕ) (part : List ℕ) (state : ℕ) → Named
part_named n part state =
    let from = first_in part in
    let to = last_in part in
    cond (within 1 from n && within from to n) (fits (range_failed state from to)) (fails state)

abbrev pub named_next : (n : ℕ) (part : List ℕ) → Named → Named
named_next n part s = cond s.wrong s (part_named n part s.state)

-- a word's parts, the commas between them
unfoldable pub parts_on : (so_far : List ℕ) → List ℕ → List (List ℕ)
parts_on so_far [] = so_far ∷ []
parts_on so_far (b ∷ bs) = cond (eqb b comma) (so_far ∷ parts_on [] bs) (parts_on (so_far ++ (b ∷ [])) bs)

abbrev pub parts_of : (word : List ℕ) → List (List ℕ)
parts_of word = parts_on [] word

unfoldable pub named_all : (n : ℕ) (parts : List (List ℕ)) → Named → Named
named_all n [] s = s
named_all n (part ∷ parts) s = named_all n parts (named_next n part s)

abbrev pub named_in : (n : ℕ) (word : List ℕ) (state : ℕ) → Named
named_in n word state = named_all n (parts_of word) (fits state)
