-- deckmake(1), "FAULTS": what was wanted where a line cannot be read, by the fault's number.
use Rattle.std.specs.Prelude.{cond, List, [], ◌∷◌, ◌++◌, ℕ, ◌+◌, ◌-◌, eqb, ltb, get_or}
use Rattle.text.specs.Decimal.{text, most_digits, decimal}
use Rattle.text.specs.Lines.{pair_text}
use Rattle.grammar.specs.Numbers.{off_grid}
use Rattle.grammar.specs.Grammar.{taken, no_boards, between_parts}
use Rattle.grammar.specs.Text.{no_such_board}

-- words that several places want
abbrev pub a_number : List ℕ
a_number = text "a number up to 65535"

abbrev pub some_parts : List ℕ
some_parts = text "parts up to 4294967295, or a decimal from 0 to 1 of at most nine digits"

abbrev pub line_end : List ℕ
line_end = text "the line's end"

abbrev pub round_or_end : List ℕ
round_or_end = text "round, from or the line's end"

-- at places 0 to 13, where no line stops at 0: a line's first word; version; fan and fans; board
abbrev pub of_things : List (List ℕ)
of_things =
    [] ∷ text "version, fan, fans, board or system" ∷ text "fan, fans, board or system" ∷ text "1, 2 or 3" ∷ text "a number of fans from 1 to 64"
    ∷ some_parts ∷ text "weight, on or the line's end" ∷ text "a weight up to 65535" ∷ text "on or the line's end" ∷ text "a board from 1 to 4" ∷ line_end
    ∷ some_parts ∷ line_end ∷ line_end ∷ []

-- at places 14 to 26: a rule's first word; fails
abbrev pub of_failing : List (List ℕ)
of_failing =
    text "fails, needs or kind" ∷ text "at or from" ∷ text "weight or a number up to 65535" ∷ a_number ∷ text "dead or in" ∷ text "a row or a number up to 65535"
    ∷ text "row" ∷ round_or_end ∷ round_or_end ∷ a_number ∷ text "to" ∷ a_number ∷ text "dead" ∷ []

-- at places 27 to 40: needs; kind; the stretch from 34 on; kind's last two
abbrev pub of_others : List (List ℕ)
of_others =
    a_number ∷ text "of" ∷ text "any" ∷ a_number ∷ a_number ∷ text "first" ∷ a_number ∷ text "from or the line's end" ∷ a_number ∷ text "to" ∷ a_number ∷ line_end
    ∷ text "second" ∷ a_number ∷ []

unfoldable pub by_place : List (List ℕ)
by_place = of_things ++ of_failing ++ of_others

-- the faults with a name, from 128 on
unfoldable pub by_name : List (List ℕ)
by_name =
    text "version 3, which has boards" ∷ text "a decimal on the grid of 2^30, as " ∷ text "at most 64 fans" ∷ text "at most 4 boards" ∷ text "at most 32 systems"
    ∷ text "a fan" ∷ text "a system" ∷ text "a board" ∷ text "a board from 1 to " ∷ text "a line of at most 65536 bytes" ∷ []

abbrev pub words_for : (wanted : ℕ) → List ℕ
words_for wanted = cond (ltb wanted no_boards) (get_or by_place (wanted - taken) []) (get_or by_name (wanted - no_boards) [])

-- two of them end in numbers: the two nearest parts, the number of boards
abbrev pub nearest : (named : ℕ) → List ℕ
nearest named = pair_text [] (named - off_grid) (text " or ") (named - off_grid + 1) ++ text " parts"

abbrev pub numbers_for : (wanted named : ℕ) → List ℕ
numbers_for wanted named = cond (eqb wanted between_parts) (nearest named) (cond (eqb wanted no_such_board) (decimal named) [])

unfoldable pub wanted_text : (wanted named : ℕ) → List ℕ
wanted_text wanted named = words_for wanted ++ numbers_for wanted named

-- the room of the longest: the words of 71 letters, and two numbers with what stands between and behind them
abbrev pub words_room : ℕ
words_room = 71

abbrev pub numbers_room : ℕ
numbers_room = most_digits + 4 + most_digits + 6

abbrev pub wanted_room : ℕ
wanted_room = words_room + numbers_room
