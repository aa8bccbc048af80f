-- deckmake(1), "THE TEXT": what may follow what in a line. The words read so far leave the line at a place; a row of the table says of a place what it takes there,
-- what that sets, and to which place it leads.
use Rattle.std.specs.Prelude.{cond, List, [], ◌∷◌, ◌++◌, ℕ, eqb}
use Prim.Native.String.{String}
use Rattle.rules.specs.Refusal.{most_boards}
use Rattle.rules.specs.File.{most_fans}
use Rattle.text.specs.Decimal.{text}
use Rattle.grammar.specs.Numbers.{letters_of, longer, whole, off_grid, parts}

-- how a word is read: by its letters; by its letters in version 3 only; as a whole number; as a survival number
abbrev pub by_letters : ℕ
by_letters = 0

abbrev pub with_boards : ℕ
with_boards = 1

abbrev pub as_number : ℕ
as_number = 2

abbrev pub as_parts : ℕ
as_parts = 3

unfoldable pub reading : (version way : ℕ) (word : List ℕ) → ℕ
reading version way word =
    cond (eqb way as_parts) (parts version word)
    (cond (eqb way as_number) (whole word) (cond (eqb way with_boards) (cond (eqb version 3) (letters_of word) longer) (letters_of word)))

-- What a line sets, each number in a slot of its own.
abbrev pub sets : ℕ
sets = 11

-- which version, how many fans, which kind
abbrev pub of_number : ℕ
of_number = 0

-- a rule's first and second
abbrev pub of_first : ℕ
of_first = 1

abbrev pub of_second : ℕ
of_second = 2

-- a stretch, and whether it is given
abbrev pub of_a : ℕ
of_a = 3

abbrev pub of_b : ℕ
of_b = 4

abbrev pub of_given : ℕ
of_given = 5

-- which thing the line is
abbrev pub of_thing : ℕ
of_thing = 6

-- a survival number
abbrev pub of_parts : ℕ
of_parts = 7

-- a fan's weight and board
abbrev pub of_weight : ℕ
of_weight = 8

abbrev pub of_board : ℕ
of_board = 9

-- a decimal that is not on the grid: `offGrid` and the lower of the two nearest parts
abbrev pub of_below : ℕ
of_below = 10

-- the things that a line may be
abbrev pub a_version : ℕ
a_version = 1

abbrev pub some_fans : ℕ
some_fans = 2

abbrev pub a_board : ℕ
a_board = 3

abbrev pub a_system : ℕ
a_system = 4

-- how large each can get
abbrev pub most_number : ℕ
most_number = 65535

abbrev pub most_parts : ℕ
most_parts = 4294967295

abbrev pub most_below : ℕ
most_below = 8589934592

abbrev pub most_set : List ℕ
most_set =
    most_number ∷ most_number ∷ most_number ∷ most_number ∷ most_number ∷ 1 ∷ a_system ∷ most_parts ∷ most_number ∷ most_boards ∷ most_below ∷ []

-- Places: where a line begins, in a text where nothing stands yet and in another; behind a word of the grammar; behind a number.
abbrev pub before_all : ℕ
before_all = 1

abbrev pub before_thing : ℕ
before_thing = 2

-- version N; fans COUNT P, weight W, on B; board P
abbrev pub after_version : ℕ
after_version = 3

abbrev pub after_version_number : ℕ
after_version_number = 13

abbrev pub after_fans : ℕ
after_fans = 4

abbrev pub after_count : ℕ
after_count = 5

abbrev pub after_parts : ℕ
after_parts = 6

abbrev pub after_weight : ℕ
after_weight = 7

abbrev pub after_weight_number : ℕ
after_weight_number = 8

abbrev pub after_on : ℕ
after_on = 9

abbrev pub after_on_number : ℕ
after_on_number = 10

abbrev pub after_board : ℕ
after_board = 11

abbrev pub after_board_parts : ℕ
after_board_parts = 12

-- system fails at K dead, at weight K, at K in a row, at K in R
abbrev pub after_system : ℕ
after_system = 14

abbrev pub after_fails : ℕ
after_fails = 15

abbrev pub after_at : ℕ
after_at = 16

abbrev pub after_at_weight : ℕ
after_at_weight = 17

abbrev pub after_at_number : ℕ
after_at_number = 18

abbrev pub after_in : ℕ
after_in = 19

abbrev pub after_in_a : ℕ
after_in_a = 20

abbrev pub after_row : ℕ
after_row = 21

abbrev pub after_in_number : ℕ
after_in_number = 22

-- system fails from L to H dead; system needs K of any R; system kind N first F second S
abbrev pub after_fails_from : ℕ
after_fails_from = 23

abbrev pub after_low : ℕ
after_low = 24

abbrev pub after_low_to : ℕ
after_low_to = 25

abbrev pub after_high : ℕ
after_high = 26

abbrev pub after_needs : ℕ
after_needs = 27

abbrev pub after_needed : ℕ
after_needed = 28

abbrev pub after_of : ℕ
after_of = 29

abbrev pub after_any : ℕ
after_any = 30

abbrev pub after_kind : ℕ
after_kind = 31

abbrev pub after_kind_number : ℕ
after_kind_number = 32

abbrev pub after_first : ℕ
after_first = 33

abbrev pub after_first_number : ℕ
after_first_number = 39

abbrev pub after_second : ℕ
after_second = 40

-- a whole rule, and its stretch: from A to B
abbrev pub after_rule : ℕ
after_rule = 34

abbrev pub after_from : ℕ
after_from = 35

abbrev pub after_a : ℕ
after_a = 36

abbrev pub after_to : ℕ
after_to = 37

abbrev pub after_b : ℕ
after_b = 38

-- Faults are places too, where no line goes on: `taken` and a place for a word that the place does not take, and the others by name.
abbrev pub taken : ℕ
taken = 64

abbrev pub no_boards : ℕ
no_boards = 128

abbrev pub between_parts : ℕ
between_parts = 129

-- rows of the table: place, way of reading, least, most, what is set, to what where that is not the number read, and where it leads
abbrev pub per_row : ℕ
per_row = 7

abbrev pub row : (place way least most set value to : ℕ) → List ℕ
row place way least most set value to = place ∷ way ∷ least ∷ most ∷ set ∷ value ∷ to ∷ []

-- a word that sets a number
abbrev pub word : (place : ℕ) → String → (set value to : ℕ) → List ℕ
word place w set value to = row place by_letters (letters_of (text w)) (letters_of (text w)) set value to

-- a word that only leads on: it comes before the end of a stretch, which is still 0
abbrev pub mere : (place : ℕ) → String → (to : ℕ) → List ℕ
mere place w to = word place w of_b 0 to

-- the same in version 3; in another it is a fault, "version 3, which has boards"
abbrev pub board_word : (place : ℕ) → String → (to : ℕ) → List ℕ
board_word place w to = row place with_boards (letters_of (text w)) (letters_of (text w)) of_b 0 to ++ mere place w no_boards

abbrev pub number : (place least most set to : ℕ) → List ℕ
number place least most set to = row place as_number least most set 0 to

-- a number that a file has room for
abbrev pub amount : (place set to : ℕ) → List ℕ
amount place set to = number place 0 most_number set to

-- P; "a decimal that is not on the grid is an error that names the two nearest parts"
abbrev pub survival : (place to : ℕ) → List ℕ
survival place to = row place as_parts 0 most_parts of_parts 0 to ++ row place as_parts off_grid most_below of_below 0 between_parts

-- the line's end, and what has been read then
abbrev pub end : (place thing : ℕ) → List ℕ
end place thing = row place by_letters 0 0 of_thing thing 0

-- a line's first word
abbrev pub things : (place : ℕ) → List ℕ
things place =
    word place "fan" of_number 1 after_count ++ mere place "fans" after_fans ++ board_word place "board" after_board ++ mere place "system" after_system

-- version 1, 2 or 3, "first"
abbrev pub version_line : List ℕ
version_line = mere before_all "version" after_version ++ number after_version 1 3 of_number after_version_number ++ end after_version_number a_version

-- fan P [weight W] [on B], fans COUNT P [weight W] [on B]
abbrev pub fan_line : List ℕ
fan_line =
    number after_fans 1 most_fans of_number after_count ++ survival after_count after_parts
    ++ mere after_parts "weight" after_weight ++ amount after_weight of_weight after_weight_number
    ++ board_word after_parts "on" after_on ++ board_word after_weight_number "on" after_on ++ number after_on 1 most_boards of_board after_on_number
    ++ end after_parts some_fans ++ end after_weight_number some_fans ++ end after_on_number some_fans

-- board P
abbrev pub board_line : List ℕ
board_line = survival after_board after_board_parts ++ end after_board_parts a_board

-- [from A to B], or the line's end
abbrev pub stretch_at : (place : ℕ) → List ℕ
stretch_at place = word place "from" of_given 1 after_from ++ end place a_system

abbrev pub stretch : List ℕ
stretch = amount after_from of_a after_a ++ mere after_a "to" after_to ++ amount after_to of_b after_b ++ end after_b a_system

-- fails at K dead; fails at weight K; fails at K in a row [round]; fails at K in R [round]
abbrev pub failing : List ℕ
failing =
    mere after_fails "at" after_at
    ++ word after_at "weight" of_number 2 after_at_weight ++ amount after_at_weight of_first after_rule
    ++ amount after_at of_first after_at_number ++ word after_at_number "dead" of_number 1 after_rule
    ++ word after_at_number "in" of_number 6 after_in
    ++ word after_in "a" of_number 4 after_in_a ++ mere after_in_a "row" after_row ++ word after_row "round" of_number 5 after_rule ++ stretch_at after_row
    ++ amount after_in of_second after_in_number ++ word after_in_number "round" of_number 7 after_rule ++ stretch_at after_in_number

-- fails from L to H dead
abbrev pub between : List ℕ
between =
    mere after_fails "from" after_fails_from ++ amount after_fails_from of_first after_low ++ mere after_low "to" after_low_to
    ++ amount after_low_to of_second after_high ++ word after_high "dead" of_number 3 after_rule

-- needs K of any R
abbrev pub needing : List ℕ
needing =
    word after_system "needs" of_number 8 after_needs ++ amount after_needs of_first after_needed ++ mere after_needed "of" after_of
    ++ mere after_of "any" after_any ++ amount after_any of_second after_rule

-- kind N first F second S
abbrev pub by_kind : List ℕ
by_kind =
    mere after_system "kind" after_kind ++ amount after_kind of_number after_kind_number ++ mere after_kind_number "first" after_first
    ++ amount after_first of_first after_first_number ++ mere after_first_number "second" after_second ++ amount after_second of_second after_rule

-- system RULE [from A to B]
abbrev pub system_line : List ℕ
system_line = mere after_system "fails" after_fails ++ failing ++ between ++ needing ++ by_kind ++ stretch_at after_rule ++ stretch

abbrev pub rows : ℕ
rows = 67

unfoldable pub grammar : List ℕ
grammar = things before_all ++ things before_thing ++ version_line ++ fan_line ++ board_line ++ system_line
