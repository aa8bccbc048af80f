-- A drawing's line and letters are within its frame.
use Rattle.std.specs.Prelude.{ℕ}

-- how far down the line is at most that the bars stand on
abbrev pub most_line : ℕ
most_line = 100

-- how large the letters of a drawing are at most
abbrev pub most_letters : ℕ
most_letters = 23
