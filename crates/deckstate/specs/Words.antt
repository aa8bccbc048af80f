-- What the words say: each names failed fans, by their numbers, by ranges or by lists of both; and where a file has boards, `board` and a number is a failed board,
-- whose fans have failed too. The first word that is neither is wrong.
use Rattle.std.specs.Prelude.{◌≡◌, true, false, cond, List, [], ◌∷◌, ℕ, suc, ◌+◌, eqb, length}
use Rattle.rules.specs.Below.{within}
use Rattle.rules.specs.Answer.{unless}
use Rattle.rules.specs.File.{fans_in, board_count_in, deck_in, file_refusal}
use Rattle.text.specs.Decimal.{text}
use Rattle.options.specs.Texts.{same_text}
use Rattle.states.specs.States.{board_failed}
use Rattle.naming.specs.Named.{number_in, named_in}
use Rattle.options.specs.declared.Asked.{Asked}
use Rattle.options.specs.Words as options
use Rattle.deckstate.specs.declared.hearing.Said.{Said}
use Rattle.deckstate.specs.declared.hearing.Hearing.{Hearing}

-- the longest word that is read; a longer one names nothing
abbrev pub longest_word : ℕ
longest_word = 256

-- a state; or a wrong word by its number, what was wanted, and the most that it could have been
abbrev pub sound : (state : ℕ) → Said
sound state = record { state = state; due = false; wrong = 0; wanted = 0; most = 0 }

abbrev pub faulty : (state at wanted most : ℕ) → Said
faulty state at wanted most = record { state = state; due = false; wrong = at; wanted = wanted; most = most }

abbrev pub nothing : Said
nothing = sound 0

-- what can be wanted: fans; a board; no board, since the deck has none; a board's number behind the last word
abbrev pub wants_fans : ℕ
wants_fans = 1

abbrev pub wants_board : ℕ
wants_board = 2

abbrev pub wants_no_board : ℕ
wants_no_board = 3

abbrev pub wants_number : ℕ
wants_number = 4

-- the at-th word, where fans may be named
abbrev pub fans_heard : (n at : ℕ) (word : List ℕ) (state : ℕ) → Said
fans_heard n at word state =
    let named = named_in n word state in
    cond named.wrong (faulty state at wants_fans n) (sound named.state)

-- and behind `board`: "its fans are dead"
abbrev pub board_heard : (g : ℕ) (boards : List ℕ) (at number state : ℕ) → Said
board_heard g boards at number state = cond (within 1 number g) (sound (board_failed boards number state)) (faulty state at wants_board g)

-- "A file of version 3 also takes `board B` words": it has boards, and no other file has
abbrev pub board_asked : (g at state : ℕ) → Said
board_asked g at state = cond (eqb g 0) (faulty state at wants_no_board 0) (record { state = state; due = true; wrong = 0; wanted = 0; most = 0 })

unfoldable pub heard : (n g : ℕ) (boards : List ℕ) (at : ℕ) (word : List ℕ) → Said → Said
heard n g boards at word said =
    let state = said.state in
    cond (eqb said.wrong 0)
    (cond said.due (board_heard g boards at (number_in word) state)
    (cond (same_text word (text "board")) (board_asked g at state) (fans_heard n at word state)))
    said

-- the words, the last one first
unfoldable pub heard_all : (n g : ℕ) (boards : List ℕ) (words : List (List ℕ)) → Said
heard_all n g boards [] = nothing
heard_all n g boards (word ∷ words) = heard n g boards (suc (length words)) word (heard_all n g boards words)

-- `board` as the last of so many words is wrong
abbrev pub ended : (g count : ℕ) → Said → Said
ended g count said = cond said.due (faulty said.state count wants_number g) said

-- the program's own table of options, and any number of words
abbrev pub option_table : List ℕ
option_table = text "-f         ="

abbrev pub most_words : ℕ
most_words = 4294967296

-- what all words ask for, the last one first, and those that are no options
unfoldable pub asked_after : (words : List (List ℕ)) → Asked
asked_after [] = options.nothing
asked_after (word ∷ words) = options.heard option_table most_words (asked_after words) (suc (length words)) word

unfoldable pub operands_of : (words : List (List ℕ)) → List (List ℕ)
operands_of [] = []
operands_of (word ∷ words) =
    cond (eqb (options.heard option_table most_words (asked_after words) (suc (length words)) word).operands (asked_after words).operands)
    (operands_of words)
    (word ∷ operands_of words)

-- what is heard of them
abbrev pub hearing_of : (n g : ℕ) (boards : List ℕ) (words : List (List ℕ)) → Hearing
hearing_of n g boards words = record {
  asked = asked_after words;
  heard = length (operands_of words);
  said = heard_all n g boards (operands_of words);
}

-- nothing yet, and one word more
abbrev pub hearing_none : Hearing
hearing_none = record { asked = options.nothing; heard = 0; said = nothing }

abbrev pub hears_word : (n g : ℕ) (boards : List ℕ) (place : ℕ) (word : List ℕ) → Hearing → Hearing
hears_word n g boards place word h =
    let next = options.heard option_table most_words h.asked place word in
    cond (eqb next.operands h.asked.operands)
    (record { asked = next; heard = h.heard; said = h.said })
    (record { asked = next; heard = h.heard + 1; said = heard n g boards (h.heard + 1) word h.said })

-- what the words of the program say of a file's deck; those of a refused file are not looked at
unfoldable pub said_in : (bytes : List ℕ) (words : List (List ℕ)) → Said
said_in bytes words =
    let n = fans_in bytes in
    let own = operands_of words in
    unless (file_refusal bytes) (λ r. nothing) (ended (board_count_in bytes) (length own) (heard_all n (board_count_in bytes) (deck_in bytes).boards own))

-- whatever words were heard, that is what they say
abbrev pub SaidOf : (bytes : List ℕ) → Hearing → Said → Type 0
SaidOf bytes h r = (words : List (List ℕ)) → (file_refusal bytes ≡ 0 → h ≡ hearing_of (fans_in bytes) (board_count_in bytes) (deck_in bytes).boards words) → r ≡ said_in bytes words
