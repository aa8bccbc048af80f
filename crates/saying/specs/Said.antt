-- What a program says where its words ask for no work: how it is started, its version, or which word is wrong and what to do.
use Rattle.std.specs.Prelude.{cond, ◌&&◌, List, [], ◌++◌, map, ℕ, ◌-◌, leb, take, get_or}
use Rattle.text.specs.Decimal.{text}
use Rattle.options.specs.Words.{asked_by}
use Rattle.options.specs.declared.Task.{Task}
use Rattle.options.specs.declared.Task.TheVariants.{Help, Version, Unknown, Many}

-- a program's name and its synopsis are no longer
abbrev pub name_room : ℕ
name_room = 16

abbrev pub synopsis_room : ℕ
synopsis_room = 64

-- "usage: NAME SYNOPSIS", and the two words that every program takes
abbrev pub help_text : (program synopsis : List ℕ) → List ℕ
help_text program synopsis =
    text "usage: " ++ program ++ text " " ++ (synopsis ++ text "\n       " ++ program) ++ (text " --help\n       " ++ program ++ text " --version\n")

abbrev pub version_text : (program : List ℕ) → List ℕ
version_text program = program ++ text " " ++ text "1.1.0\n"

-- a word as it is shown: its front, what is no plain character a question mark
abbrev pub most_shown : ℕ
most_shown = 60

abbrev pub plain : ℕ → ℕ
plain b = cond (leb 32 b && leb b 126) b 63

abbrev pub shown : (word : List ℕ) → List ℕ
shown word = map plain (take most_shown word)

-- what is wrong with it: an option that the table does not have, an operand too many, an option without its word
abbrev pub wrong_words : Task → List ℕ
wrong_words Unknown = text ": there is no such option; "
wrong_words Many = text ": one word too many; "
wrong_words task = text ": the word that belongs to it is missing; "

-- and what to do
abbrev pub remedy_text : (task : Task) (program : List ℕ) → List ℕ
remedy_text task program = wrong_words task ++ program ++ text " --help says what it takes\n"

abbrev pub remedy_room : ℕ
remedy_room = 96

abbrev pub wrong_text : (program : List ℕ) (task : Task) (word : List ℕ) → List ℕ
wrong_text program task word = program ++ text ": " ++ shown word ++ remedy_text task program

-- by what the words ask for; the word there is the one that decided
abbrev pub answer_text : (program synopsis : List ℕ) (task : Task) (word : List ℕ) → List ℕ
answer_text program synopsis Help word = help_text program synopsis
answer_text program synopsis Version word = version_text program
answer_text program synopsis task word = wrong_text program task word

abbrev pub answer_room : ℕ
answer_room = 256

-- of all words, the first at place 1, by the program's table of options and the most operands that it takes
abbrev pub answer_to : (program synopsis table : List ℕ) (most : ℕ) (words : List (List ℕ)) → List ℕ
answer_to program synopsis table most words =
    let a = asked_by table most words in
    answer_text program synopsis a.task (get_or words (a.at - 1) [])
