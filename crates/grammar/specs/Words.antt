-- deckmake(1): "One thing a line." The lines of a text and the words of a line, each the list of its bytes.
use Rattle.std.specs.Prelude.{Bool, cond, ◌||◌, List, [], ◌∷◌, ◌++◌, ℕ, eqb}

-- "words stand apart by blanks, tabs or carriage returns, and # begins a comment"
abbrev pub newline : ℕ
newline = 10

abbrev pub comment : ℕ
comment = 35

abbrev pub blank : ℕ → Bool
blank b = eqb b 32 || (eqb b 9 || eqb b 13)

-- what has been read so far, unless it is nothing, before the rest
abbrev pub closed : (so_far : List ℕ) (rest : List (List ℕ)) → List (List ℕ)
closed [] rest = rest
closed (b ∷ so_far) rest = (b ∷ so_far) ∷ rest

-- the lines of a text; what follows the last newline is a line unless it is empty
unfoldable pub lines_on : (so_far text : List ℕ) → List (List ℕ)
lines_on so_far [] = closed so_far []
lines_on so_far (b ∷ text) = cond (eqb b newline) (so_far ∷ lines_on [] text) (lines_on (so_far ++ (b ∷ [])) text)

abbrev pub lines_of : (text : List ℕ) → List (List ℕ)
lines_of text = lines_on [] text

-- the words of a line, up to a comment
unfoldable pub words_on : (so_far line : List ℕ) → List (List ℕ)
words_on so_far [] = closed so_far []
words_on so_far (b ∷ line) = cond (eqb b comment) (closed so_far []) (cond (blank b) (closed so_far (words_on [] line)) (words_on (so_far ++ (b ∷ [])) line))

abbrev pub words_of : (line : List ℕ) → List (List ℕ)
words_of line = words_on [] line
