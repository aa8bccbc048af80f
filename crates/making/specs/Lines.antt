-- deckmake(1): what it says of a deck that is made: "a warning .. says so with the refusal number, from the same functions that rate". And the room that it takes.
use Rattle.std.specs.Prelude.{List, [], ◌++◌, ℕ, zero, suc, ◌+◌, ◌*◌}
use Rattle.rules.specs.declared.Rating.{Rating}
use Rattle.rules.specs.declared.Rating.TheVariants.{Range, Refused}
use Rattle.rules.specs.File.{most_systems, loading_of}
use Rattle.text.specs.Decimal.{text}
use Rattle.text.specs.Lines.{pair_text, pair_room}

-- a system that will be refused is told, by its number; one that will be answered is not
abbrev pub warning_text : (system : ℕ) → Rating → List ℕ
warning_text system (Range low high) = []
warning_text system (Refused number) = pair_text (text "system ") system (text " will be refused ") number ++ text "\n"

abbrev pub warning_room : ℕ
warning_room = pair_room (text "system ") (text " will be refused ") + 1

-- the warnings of the first m systems of a file
unfoldable pub warnings_text : (bytes : List ℕ) (m : ℕ) → List ℕ
warnings_text bytes zero = []
warnings_text bytes (suc m) = warnings_text bytes m ++ warning_text (suc m) (loading_of bytes (suc m))

abbrev pub warnings_room : ℕ
warnings_room = warning_room * most_systems
