-- What a word is read as: a word of the grammar by its letters, a whole number, a decimal, a survival number.
use Rattle.std.specs.Prelude.{Bool, cond, List, [], ◌∷◌, ℕ, ◌+◌, ◌*◌, ◌-◌, ◌/◌, ◌%◌, ◌^◌, eqb, ltb, length, take, drop}
use Rattle.rules.specs.Below.{within}
use Rattle.rules.specs.State.{unit_of}

-- A word by its letters, as one number: no two words of at most seven letters have the same, all longer ones have `longer`, the empty one has 0.
abbrev pub longer : ℕ
longer = 257 ^ 7

abbrev pub with_letter : (so_far letter : ℕ) → ℕ
with_letter so_far letter = cond (ltb so_far (257 ^ 6)) (so_far * 257 + letter + 1) longer

unfoldable pub letters_on : (so_far : ℕ) (word : List ℕ) → ℕ
letters_on so_far [] = so_far
letters_on so_far (b ∷ word) = letters_on (with_letter so_far b) word

abbrev pub letters_of : (word : List ℕ) → ℕ
letters_of word = letters_on 0 word

-- "a whole number": decimal digits, as many as one likes; one that is above 2^32 - 1, and a word that is no number, have `none`
abbrev pub none : ℕ
none = 2 ^ 32

abbrev pub digit : ℕ → Bool
digit b = within 48 b 57

abbrev pub with_digit : (so_far b : ℕ) → ℕ
with_digit so_far b = cond (ltb (so_far * 10 + (b - 48)) none) (so_far * 10 + (b - 48)) none

unfoldable pub digits_on : (so_far : ℕ) (word : List ℕ) → ℕ
digits_on so_far [] = so_far
digits_on so_far (b ∷ word) = cond (digit b) (digits_on (with_digit so_far b) word) none

unfoldable pub whole : (word : List ℕ) → ℕ
whole word = cond (eqb (length word) 0) none (digits_on 0 word)

-- "a decimal from 0 to 1": digits, a point, at most nine digits; in billionths, and `none` for what is no such decimal
abbrev pub most : ℕ
most = 9

abbrev pub billion : ℕ
billion = 1000000000

unfoldable pub point_in : (word : List ℕ) → ℕ
point_in [] = 0
point_in (b ∷ word) = cond (eqb b 46) 0 (1 + point_in word)

-- what stands before the point, and behind it with so many digits
abbrev pub joined : (before behind digits : ℕ) → ℕ
joined before behind digits = before * billion + behind * 10 ^ (most - digits)

unfoldable pub decimal_at : (word : List ℕ) (point : ℕ) → ℕ
decimal_at word point =
    cond (ltb (length word - point - 1) 1) none
    (cond (ltb most (length word - point - 1)) none
    (cond (ltb billion (joined (whole (take point word)) (whole (drop (point + 1) word)) (length word - point - 1))) none
    (joined (whole (take point word)) (whole (drop (point + 1) word)) (length word - point - 1))))

abbrev pub fraction : (word : List ℕ) → ℕ
fraction word = decimal_at word (point_in word)

-- "P as a whole number of the unit's parts or as a decimal": the parts; `none` for neither; for a decimal between two parts, `offGrid` and the lower of them
abbrev pub off_grid : ℕ
off_grid = none + 1

unfoldable pub share : (version billionths : ℕ) → ℕ
share version billionths =
    cond (eqb billionths none) none
    (cond (eqb (billionths * unit_of version % billion) 0) (billionths * unit_of version / billion) (off_grid + billionths * unit_of version / billion))

unfoldable pub parts : (version : ℕ) (word : List ℕ) → ℕ
parts version word = cond (eqb (whole word) none) (share version (fraction word)) (whole word)
