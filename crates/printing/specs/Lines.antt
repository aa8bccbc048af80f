-- Document 01, "Deck file and printing": "A refused file prints only `file refused` and the number." What else is printed is each program's own.
use Rattle.std.specs.Prelude.{Bool, true, false, List, [], ◌++◌, ℕ, zero, suc, ◌+◌, length}
use Rattle.rules.specs.Answer.{unless}
use Rattle.rules.specs.File.{file_refusal}
use Rattle.text.specs.Decimal.{text}
use Rattle.text.specs.Lines.{named, refused_text, refused_room}
use Rattle.advice.specs.declared.why.Why.{Why}
use Rattle.advice.specs.Words.{why_text, why_room}
use Rattle.advice.specs.File.{file_why}

abbrev pub file_text : ℕ → List ℕ
file_text number = text "file" ++ refused_text number

abbrev pub file_room : ℕ
file_room = length (text "file") + refused_room

-- all that a program prints for a file, by what it prints for one that is not refused
unfoldable pub print_text : (body : List ℕ → List ℕ) (bytes : List ℕ) → List ℕ
print_text body bytes = unless (file_refusal bytes) file_text (body bytes)

-- the lines of the first k things, counted from 0
unfoldable pub lines_text : (k : ℕ) → (ℕ → List ℕ) → List ℕ
lines_text zero line = []
lines_text (suc k) line = lines_text k line ++ line k

-- the same where words are asked for: what the refusal means, and what to do about it
abbrev pub worded_text : (words : Bool) (why : Why) (number : ℕ) → List ℕ
worded_text false why number = refused_text number
worded_text true why number = named (text " refused ") number ++ text ": " ++ why_text why ++ text "\n"

abbrev pub worded_room : ℕ
worded_room = refused_room + length (text ": ") + why_room

abbrev pub file_worded : (words : Bool) (bytes : List ℕ) (number : ℕ) → List ℕ
file_worded words bytes number = text "file" ++ worded_text words (file_why bytes) number

unfoldable pub worded_print : (words : Bool) (body : List ℕ → List ℕ) (bytes : List ℕ) → List ℕ
worded_print words body bytes = unless (file_refusal bytes) (file_worded words bytes) (body bytes)
