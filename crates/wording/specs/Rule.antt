-- deckmake(1), "THE TEXT": a rule in words, by its kind.
use Rattle.std.specs.Prelude.{cond, List, [], ◌∷◌, ◌++◌, ℕ, ◌+◌, eqb}
use Rattle.rules.specs.Below.{row_of}
use Rattle.text.specs.Decimal.{text}
use Rattle.text.specs.Lines.{named, named_room, pair_text, pair_room}
use Rattle.wording.specs.Numbers.{one_text, two_text}

-- "kind N first F second S": any rule by its numbers
abbrev pub by_numbers : (kind first second : ℕ) → List ℕ
by_numbers kind first second = named (text "kind ") kind ++ pair_text (text " first ") first (text " second ") second

-- the words of a kind that has no second number; a rule that carries one all the same is told by its numbers
abbrev pub alone : (kind first second : ℕ) (words : List ℕ) → List ℕ
alone kind first second words = cond (eqb second 0) words (by_numbers kind first second)

-- kinds 1 to 8: "fails at K dead", "fails at weight K", "fails from L to H dead", "fails at K in a row", "fails at K in a row round", "fails at K in R", "fails at K in R round",
-- "needs K of any R"
abbrev pub by_kind : (kind first second : ℕ) → List (List ℕ)
by_kind kind first second =
    alone kind first second (one_text (text "fails at ") first (text " dead"))
    ∷ alone kind first second (one_text (text "fails at weight ") first [])
    ∷ two_text (text "fails from ") first (text " to ") second (text " dead")
    ∷ alone kind first second (one_text (text "fails at ") first (text " in a row"))
    ∷ alone kind first second (one_text (text "fails at ") first (text " in a row round"))
    ∷ two_text (text "fails at ") first (text " in ") second []
    ∷ two_text (text "fails at ") first (text " in ") second (text " round")
    ∷ two_text (text "needs ") first (text " of any ") second []
    ∷ []

unfoldable pub rule_text : (kind first second : ℕ) → List ℕ
rule_text kind first second = row_of kind (by_numbers kind first second) (by_kind kind first second)

-- by its numbers a rule is longest
abbrev pub rule_room : ℕ
rule_room = named_room (text "kind ") + pair_room (text " first ") (text " second ")
