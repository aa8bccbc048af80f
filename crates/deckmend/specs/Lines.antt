-- Document 02, request 14, as deckmend tells it on standard error: "each changed byte by position with old and new value", a line each, "and the number of bytes cut" last.
-- And the room that each line takes at most.
use Rattle.std.specs.Prelude.{List, [], ◌++◌, ℕ, zero, suc, ◌+◌, ◌*◌, get_or}
use Rattle.rules.specs.Answer.{unless}
use Rattle.rules.specs.Refusal.{last_version}
use Rattle.rules.specs.File.{header_length}
use Rattle.rules.specs.Mending.{mended, cut_from, per_change, changes_in, changed_in, beyond_mending}
use Rattle.text.specs.Decimal.{text}
use Rattle.text.specs.Lines.{named, named_room, pair_text, pair_room}
use Rattle.printing.specs.Lines.{file_text}

-- a named number that ends its line
abbrev pub end_text : (name : List ℕ) (n : ℕ) → List ℕ
end_text name n = named name n ++ text "\n"

abbrev pub end_room : (name : List ℕ) → ℕ
end_room name = named_room name + 1

-- `byte P was O is N`
abbrev pub change_text : (place old new : ℕ) → List ℕ
change_text place old new = pair_text (text "byte ") place (text " was ") old ++ end_text (text " is ") new

abbrev pub change_room : ℕ
change_room = pair_room (text "byte ") (text " was ") + end_room (text " is ")

-- the lines of the first k changes of a list, three numbers each
unfoldable pub changes_text : (k : ℕ) (list : List ℕ) → List ℕ
changes_text zero list = []
changes_text (suc k) list =
    let at = per_change * k in
    changes_text k list ++ change_text (get_or list at 0) (get_or list (at + 1) 0) (get_or list (at + 2) 0)

-- `cut C`
abbrev pub cut_text : ℕ → List ℕ
cut_text n = end_text (text "cut ") n

-- what goes to standard output for an input, and what to standard error; of a refused file nothing and its line
abbrev pub file_out : List ℕ → List ℕ
file_out bytes = unless (beyond_mending bytes) (λ r. []) (mended bytes)

abbrev pub lines_out : List ℕ → List ℕ
lines_out bytes = unless (beyond_mending bytes) file_text (changes_text (changed_in bytes) (changes_in bytes) ++ cut_text (cut_from bytes))

-- only bytes of the header change
abbrev pub most_changes : ℕ
most_changes = header_length last_version

abbrev pub lines_room : ℕ
lines_room = change_room * most_changes + end_room (text "cut ")
