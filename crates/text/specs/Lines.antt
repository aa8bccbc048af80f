-- Named numbers and lines, and the room that each takes at most.
use Rattle.std.specs.Prelude.{List, ◌++◌, ℕ, ◌+◌, ℤ, length}
use Rattle.text.specs.Decimal.{text, most_digits, decimal, signed_digits, signed}

-- a name and a number
abbrev pub named : (name : List ℕ) (n : ℕ) → List ℕ
named name n = name ++ decimal n

abbrev pub named_room : (name : List ℕ) → ℕ
named_room name = length name + most_digits

-- two of them
abbrev pub pair_text : (first : List ℕ) (a : ℕ) (second : List ℕ) (b : ℕ) → List ℕ
pair_text first a second b = named first a ++ named second b

abbrev pub pair_room : (first second : List ℕ) → ℕ
pair_room first second = named_room first + named_room second

-- a name and a signed number, and two of them
abbrev pub signed_named : (name : List ℕ) (z : ℤ) → List ℕ
signed_named name z = name ++ signed z

abbrev pub signed_room : (name : List ℕ) → ℕ
signed_room name = length name + signed_digits

abbrev pub signed_pair : (first : List ℕ) (a : ℤ) (second : List ℕ) (b : ℤ) → List ℕ
signed_pair first a second b = signed_named first a ++ signed_named second b

abbrev pub signed_pair_room : (first second : List ℕ) → ℕ
signed_pair_room first second = signed_room first + signed_room second

-- a refusal, and the line's end
abbrev pub refused_text : ℕ → List ℕ
refused_text number = named (text " refused ") number ++ text "\n"

abbrev pub refused_room : ℕ
refused_room = named_room (text " refused ") + 1
