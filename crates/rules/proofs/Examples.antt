-- Document 01, "Proved examples": A to K as one table, and one theorem that every row of it holds, computed by the checker; and more, of worths, of the writer, of
-- versions, of boards and of a better fan that spoils a figure of kind 3, which document 01 does not know. Assumes nothing.
use mathlib.Core.Path.{◌≡◌, refl}
use mathlib.Core.Bool.{Bool, true, false}
use mathlib.Core.List.{List, [], ◌∷◌, ◌++◌}
use Prim.Native.Nat.{ℕ, suc, ◌*◌, ◌^◌}
use native.Mathlib.Omega.{arith}
use lib.Count.{ones}
use Rattle.rules.specs.declared.Rule.{Rule}
use Rattle.rules.specs.declared.Verdict.{Verdict}
use Rattle.rules.specs.declared.Verdict.TheVariants.{Works, Fails}
use Rattle.rules.specs.declared.Rating.{Rating}
use Rattle.rules.specs.declared.Rating.TheVariants.{Range, Refused}
use Rattle.rules.specs.declared.Worth.{Worth}
use Rattle.rules.specs.declared.Worth.TheVariants as worth
use Rattle.rules.specs.declared.Worth.TheVariants.{Ends}
use Rattle.rules.specs.declared.Writing.TheVariants as writing
use Rattle.rules.specs.declared.Writing.TheVariants.{Written}
use Rattle.rules.specs.Below.{sum_below, held, some, first, list_below, total}
use Rattle.rules.specs.State.{S, decimal, unit_of, rule_of, number_of}
use Rattle.rules.specs.Verdict.{weight_down, some_window, two_near, fails, first_window, first_near, place_of}
use Rattle.rules.specs.Count.{count_if, counts_of}
use Rattle.rules.specs.Memory.{moved, ended, reading_of}
use Rattle.rules.specs.Figure.{rounded, value, product, exact_if}
use Rattle.rules.specs.Boards.{board_down, behind, combined, figure_behind, fans_down, works_behind, exact_behind}
use Rattle.rules.specs.Stretch.{stretch}
use Rattle.rules.specs.Asked.{question_of, asked_of}
use Rattle.rules.specs.Refusal.{cells, after, some_above, weights_out, ranged, first_of, verdict_refusal, figures_refusal}
use Rattle.rules.specs.Answer.{unless, judgment, judged_of, verdict_of, figures_of}
use Rattle.rules.specs.Worth.{worth_of}
use Rattle.rules.specs.Gain.{gain_of}
use Rattle.rules.specs.File.{bytes_of, number_at, all_bytes, header_of, system_numbers, systems_of, system_at, file_of, deck_in, file_refusal}
use Rattle.rules.specs.Writing.{Typed, typed_of, deck_of, bytes_for, write_refusal, writing_of, room_written}
use Rattle.rules.specs.Better.{NoLower, rising}
use Rattle.rules.proofs.Better.{set-better}
use lib.IntN.{pos, neg_ℤ}
use lib.ListN.{length, take, replicate}

-- a count table, the verdict on a word, or the figures of a list
pub data Example : Type 0 where
  counts : Rule → (n : ℕ) (weights printed : List ℕ) → Example
  verdict : Rule → (n w : ℕ) → Verdict → Example
  figures : Rule → (survival : List ℕ) → Rating → Example

unfoldable pub Holds : Example → Type 0
Holds (counts rule n weights printed) = counts_of rule n weights ≡ printed
Holds (verdict rule n w printed) = verdict_of rule n [] [] w ≡ printed
Holds (figures rule survival printed) = figures_of (asked_of (question_of 1 rule 1 (length survival)) survival [] [] [] []) (replicate cells 0) ≡ printed

unfoldable pub All : List Example → Type 0
unfolding Holds
All [] = Unit
All (e ∷ es) = Holds e × All es

unfoldable pub table : List Example
table =
    counts (rule_of 6 2 3) 7 [] (1 ∷ 7 ∷ 10 ∷ 1 ∷ 0 ∷ 0 ∷ 0 ∷ 0 ∷ [])  -- A
    ∷ counts (rule_of 7 2 3) 7 [] (1 ∷ 7 ∷ 7 ∷ 0 ∷ 0 ∷ 0 ∷ 0 ∷ 0 ∷ [])  -- B
    ∷ counts (rule_of 4 2 0) 4 [] (1 ∷ 4 ∷ 3 ∷ 0 ∷ 0 ∷ [])  -- C
    ∷ counts (rule_of 5 2 0) 4 [] (1 ∷ 4 ∷ 2 ∷ 0 ∷ 0 ∷ [])  -- D
    ∷ counts (rule_of 3 1 2) 4 [] (1 ∷ 0 ∷ 0 ∷ 4 ∷ 1 ∷ [])  -- E
    ∷ counts (rule_of 2 2 0) 3 (2 ∷ 1 ∷ 1 ∷ []) (1 ∷ 2 ∷ 0 ∷ 0 ∷ [])  -- F
    ∷ verdict (rule_of 6 2 3) 7 9 Works  -- G
    ∷ verdict (rule_of 6 2 3) 7 5 (Fails 1)
    ∷ verdict (rule_of 6 2 3) 7 33 Works  -- H
    ∷ verdict (rule_of 7 2 3) 7 33 (Fails 6)
    ∷ figures (rule_of 1 1 0) (1 ∷ 1 ∷ []) (Range 0 1)  -- I
    ∷ figures (rule_of 1 2 0) (1 ∷ 1 ∷ []) (Range 1 2)  -- J
    ∷ figures (rule_of 1 1 0) (S ∷ []) (Range S S)  -- K
    ∷ []

-- request 06, worked by hand. Four fans at 1/2, 1/4, 1/2 and above the unit; both of fans 2 and 3 must work, so each is worth the other's chance. Fans at
-- both ends of the stretch are answered, those beside it are not, and the number of one outside is not read. The last: a fan whose failing is wanted.
abbrev four : List ℕ
four = 2 ^ 29 ∷ 2 ^ 28 ∷ 2 ^ 29 ∷ suc S ∷ []

abbrev pub weighed : (rule : Rule) (a b : ℕ) (survival : List ℕ) (fan : ℕ) → Worth
weighed rule a b survival fan = worth_of (asked_of (question_of 1 rule a b) survival [] [] [] []) fan (replicate cells 0)

pub worths : (weighed (rule_of 1 1 0) 2 3 four 2 ≡ Ends (pos (2 ^ 29)) (pos (2 ^ 29)))
    × (weighed (rule_of 1 1 0) 2 3 four 3 ≡ Ends (pos (2 ^ 28)) (pos (2 ^ 28)))
    × (weighed (rule_of 1 1 0) 2 3 four 1 ≡ worth.Refused 17)
    × (weighed (rule_of 1 1 0) 2 3 four 4 ≡ worth.Refused 17)
    × (weighed (rule_of 1 1 0) 2 4 four 4 ≡ worth.Refused 4)
    × (weighed (rule_of 1 3 0) 2 3 four 4 ≡ worth.Refused 6)
    × (weighed (rule_of 3 0 0) 1 1 four 1 ≡ Ends (neg_ℤ (pos S)) (neg_ℤ (pos S)))
unfolding unit_of sum_below held some list_below total number_of some_window two_near fails weight_down ones moved ended reading_of rounded value stretch board_down behind combined some_above weights_out ranged first_of after figures_refusal unless worth_of
worths = (refl, refl, refl, refl, refl, refl, refl)

-- gains of a spare, worked by hand. Fans at 7/8, 3/4 and 1/2, two of which must work: the third is worth least, and there a sure spare gains most. One that is no
-- better than the fan, and one sure to fail. P has its place among the refusals, before 6, and 17 is last.
abbrev apart : List ℕ
apart = 7 * 2 ^ 27 ∷ 3 * 2 ^ 28 ∷ 2 ^ 29 ∷ []

abbrev pub gained : (rule : Rule) (a b : ℕ) (survival : List ℕ) (fan p : ℕ) → Worth
gained rule a b survival fan p = gain_of (asked_of (question_of 1 rule a b) survival [] [] [] []) fan p (replicate cells 0)

pub gains : (weighed (rule_of 1 2 0) 1 3 apart 1 ≡ Ends (pos (2 ^ 29)) (pos (2 ^ 29)))
    × (weighed (rule_of 1 2 0) 1 3 apart 3 ≡ Ends (pos (5 * 2 ^ 26)) (pos (5 * 2 ^ 26)))
    × (gained (rule_of 1 2 0) 1 3 apart 1 S ≡ Ends (pos (2 ^ 26)) (pos (2 ^ 26)))
    × (gained (rule_of 1 2 0) 1 3 apart 3 S ≡ Ends (pos (5 * 2 ^ 25)) (pos (5 * 2 ^ 25)))
    × (gained (rule_of 1 2 0) 1 3 apart 3 (2 ^ 29) ≡ Ends (pos 0) (pos 0))
    × (gained (rule_of 1 2 0) 1 3 apart 3 0 ≡ Ends (neg_ℤ (pos (5 * 2 ^ 25))) (neg_ℤ (pos (5 * 2 ^ 25))))
    × (gained (rule_of 1 2 0) 1 3 apart 3 (suc S) ≡ worth.Refused 4)
    × (gained (rule_of 1 4 0) 1 3 apart 3 S ≡ worth.Refused 6)
    × (gained (rule_of 1 4 0) 1 3 apart 3 (suc S) ≡ worth.Refused 4)
    × (gained (rule_of 9 4 0) 1 3 apart 3 (suc S) ≡ worth.Refused 1)
    × (gained (rule_of 1 1 0) 2 4 four 4 0 ≡ worth.Refused 4)
    × (gained (rule_of 1 2 0) 2 3 apart 1 S ≡ worth.Refused 17)
    × (gained (rule_of 1 2 0) 2 3 apart 1 (suc S) ≡ worth.Refused 4)
unfolding unit_of sum_below held some list_below total number_of some_window two_near fails weight_down ones moved ended reading_of rounded value stretch board_down behind combined some_above weights_out ranged first_of after figures_refusal unless worth_of gain_of
gains = (refl, refl, refl, refl, refl, refl, refl, refl, refl, refl, refl, refl, refl)

-- request 01: document 01's file in hex as the office types it, its room full, one byte short and one long, and the order of refusals
abbrev three : Typed
three = typed_of 1 (2 ^ 29 ∷ 2 ^ 29 ∷ 2 ^ 29 ∷ []) (0 ∷ 0 ∷ 0 ∷ []) [] [] (1 ∷ 2 ∷ 0 ∷ 1 ∷ 3 ∷ 4 ∷ 2 ∷ 0 ∷ 1 ∷ 3 ∷ 4 ∷ 4 ∷ 0 ∷ 1 ∷ 3 ∷ [])

abbrev printed : List ℕ
printed =
    1 ∷ 0 ∷ 0 ∷ 0 ∷ 3 ∷ 0 ∷ 3 ∷ 0 ∷ 20 ∷ 0 ∷ 0 ∷ 0 ∷ 32 ∷ 0 ∷ 0 ∷ 0 ∷ 38 ∷ 0 ∷ 0 ∷ 0
    ∷ 0 ∷ 0 ∷ 0 ∷ 32 ∷ 0 ∷ 0 ∷ 0 ∷ 32 ∷ 0 ∷ 0 ∷ 0 ∷ 32 ∷ 0 ∷ 0 ∷ 0 ∷ 0 ∷ 0 ∷ 0
    ∷ 1 ∷ 0 ∷ 2 ∷ 0 ∷ 0 ∷ 0 ∷ 1 ∷ 0 ∷ 3 ∷ 0
    ∷ 4 ∷ 0 ∷ 2 ∷ 0 ∷ 0 ∷ 0 ∷ 1 ∷ 0 ∷ 3 ∷ 0
    ∷ 4 ∷ 0 ∷ 4 ∷ 0 ∷ 0 ∷ 0 ∷ 1 ∷ 0 ∷ 3 ∷ 0
    ∷ []

pub writings : (bytes_for three ≡ printed)
    × (writing_of three (replicate 68 7) ≡ Written 68)
    × (room_written three (replicate 69 7) ≡ printed ++ (7 ∷ []))
    × (writing_of three (replicate 67 7) ≡ writing.Refused 16)
    × (room_written three (replicate 67 7) ≡ replicate 67 7)
    × (writing_of (typed_of 1 [] (1 ∷ []) [] [] []) [] ≡ writing.Refused 2)
    × (writing_of (typed_of 1 (S ∷ []) [] [] [] []) [] ≡ writing.Refused 5)
    × (writing_of (typed_of 1 (S ∷ []) (1 ∷ []) [] [] (1 ∷ 1 ∷ 0 ∷ 1 ∷ [])) [] ≡ writing.Refused 12)
unfolding list_below bytes_of all_bytes header_of system_numbers systems_of file_of first_of write_refusal unless writing_of room_written
writings = (refl, refl, refl, refl, refl, refl, refl, refl)

-- request 08: a fan at 1/2 and two of 1 part in version 2, whose mix is rounded up by that unit; the unit itself and one part more; the versions that there are
-- not, before a kind that there is not
abbrev version_two : Rule → (survival : List ℕ) → Rating
version_two rule survival = figures_of (asked_of (question_of 2 rule 1 (length survival)) survival [] [] [] []) (replicate cells 0)

pub versions : (version_two (rule_of 1 1 0) (500000000 ∷ []) ≡ Range 500000000 500000000)
    × (version_two (rule_of 1 2 0) (1 ∷ 1 ∷ []) ≡ Range 1 2)
    × (version_two (rule_of 1 1 0) (decimal ∷ []) ≡ Range decimal decimal)
    × (version_two (rule_of 1 1 0) (suc decimal ∷ []) ≡ Refused 4)
    × (figures_of (asked_of (question_of 0 (rule_of 9 1 0) 1 1) (1 ∷ []) [] [] [] []) [] ≡ Refused 11)
    × (figures_of (asked_of (question_of 4 (rule_of 1 1 0) 1 1) (1 ∷ []) [] [] [] []) [] ≡ Refused 11)
    × (writing_of (typed_of 4 [] [] [] [] []) [] ≡ writing.Refused 11)
    × (bytes_for (typed_of 2 (decimal ∷ []) (7 ∷ []) [] [] (1 ∷ 1 ∷ 0 ∷ 1 ∷ 1 ∷ []))
    ≡ 2 ∷ 0 ∷ 0 ∷ 0 ∷ 1 ∷ 0 ∷ 1 ∷ 0 ∷ 20 ∷ 0 ∷ 0 ∷ 0 ∷ 24 ∷ 0 ∷ 0 ∷ 0 ∷ 26 ∷ 0 ∷ 0 ∷ 0
    ∷ 0 ∷ 202 ∷ 154 ∷ 59 ∷ 7 ∷ 0 ∷ 1 ∷ 0 ∷ 1 ∷ 0 ∷ 0 ∷ 0 ∷ 1 ∷ 0 ∷ 1 ∷ 0 ∷ [])
unfolding unit_of sum_below held some list_below total number_of ones moved ended reading_of rounded value stretch board_down behind combined some_above weights_out ranged first_of figures_refusal unless figures_of bytes_of all_bytes header_of system_numbers systems_of file_of write_refusal writing_of
versions = (refl, refl, refl, refl, refl, refl, refl, refl)

-- request 11, at the unit 4: two fans that must not both fail, one on each of two boards. With board 2 combined last low would be 2.
abbrev two_boards : (up : Bool) → ℕ
two_boards up = figure_behind up 4 (rule_of 1 2 0) (2 ∷ 3 ∷ []) [] (1 ∷ 2 ∷ []) (2 ∷ 2 ∷ [])

pub board-one-last : (two_boards false ≡ 1)
    × (two_boards true ≡ 3)
    × (exact_behind 4 (rule_of 1 2 0) (2 ∷ 3 ∷ []) [] (1 ∷ 2 ∷ []) (2 ∷ 2 ∷ []) ≡ 136)
unfolding ones sum_below list_below number_of fails moved ended reading_of rounded value product exact_if board_down behind combined fans_down works_behind
board-one-last = (refl, refl, refl)

-- version 3: a fan at 1/2 behind a board at 1/2; the same lists with version 2, which reads nothing of boards; a fan on no board; a stretch beside a fan on a board that
-- there is not. Then 20, 21 and 4, each before the next, and its worth: sure to work it may still lose its board.
abbrev boarded : (version : ℕ) → Rule → (a b : ℕ) (survival boards switchboards : List ℕ) → Rating
boarded version rule a b survival boards switchboards = figures_of (asked_of (question_of version rule a b) survival [] [] boards switchboards) (replicate cells 0)

abbrev half : ℕ
half = 500000000

pub behind-boards : (boarded 3 (rule_of 1 1 0) 1 1 (half ∷ []) (1 ∷ []) (half ∷ []) ≡ Range 250000000 250000000)
    × (boarded 2 (rule_of 1 1 0) 1 1 (half ∷ []) (1 ∷ []) (half ∷ []) ≡ Range half half)
    × (boarded 2 (rule_of 1 1 0) 1 1 (half ∷ []) (9 ∷ 9 ∷ []) [] ≡ Range half half)
    × (boarded 3 (rule_of 1 1 0) 1 1 (half ∷ []) (0 ∷ []) (half ∷ []) ≡ Range half half)
    × (boarded 3 (rule_of 1 1 0) 2 2 (half ∷ half ∷ []) (2 ∷ 1 ∷ []) (half ∷ []) ≡ Range 250000000 250000000)
    × (boarded 3 (rule_of 1 1 0) 1 2 (half ∷ []) (2 ∷ []) [] ≡ Refused 3)
    × (boarded 3 (rule_of 1 1 0) 1 1 (half ∷ []) (2 ∷ []) [] ≡ Refused 20)
    × (boarded 3 (rule_of 1 1 0) 1 1 (half ∷ []) (6 ∷ []) (half ∷ half ∷ half ∷ half ∷ half ∷ []) ≡ Refused 20)
    × (boarded 3 (rule_of 1 1 0) 1 1 (suc decimal ∷ []) (2 ∷ []) (half ∷ []) ≡ Refused 21)
    × (boarded 3 (rule_of 1 1 0) 1 1 (suc decimal ∷ []) (1 ∷ 1 ∷ []) (half ∷ []) ≡ Refused 21)
    × (boarded 3 (rule_of 2 1 0) 1 1 (half ∷ []) (1 ∷ []) (suc decimal ∷ []) ≡ Refused 4)
    × (worth_of (asked_of (question_of 3 (rule_of 1 1 0) 1 1) (half ∷ []) [] [] (1 ∷ []) (half ∷ [])) 1 (replicate cells 0) ≡ Ends (pos half) (pos half))
unfolding unit_of sum_below held some list_below total number_of ones moved ended reading_of rounded value stretch board_down behind combined some_above weights_out ranged first_of after figures_refusal unless figures_of worth_of
behind-boards = (refl, refl, refl, refl, refl, refl, refl, refl, refl, refl, refl, refl)

-- and its file: one fan at 1/2 behind one board at the unit. Then 10 again before 2, 12 before 20, 20 before 13, 13 before 21, and the writer's 20 and 21 before 16.
abbrev one_board : Typed
one_board = typed_of 3 (half ∷ []) (7 ∷ []) (1 ∷ []) (decimal ∷ []) (1 ∷ 1 ∷ 0 ∷ 1 ∷ 1 ∷ [])

abbrev header : (n m systems g : ℕ) → List ℕ
header n m systems g =
    3 ∷ 0 ∷ 0 ∷ 0 ∷ n ∷ 0 ∷ m ∷ 0 ∷ 28 ∷ 0 ∷ 0 ∷ 0 ∷ 32 ∷ 0 ∷ 0 ∷ 0 ∷ systems ∷ 0 ∷ 0 ∷ 0 ∷ g ∷ 0 ∷ 0 ∷ 0 ∷ 34 ∷ 0 ∷ 0 ∷ 0 ∷ []

abbrev body : (board : ℕ) → List ℕ
body board = 0 ∷ 101 ∷ 205 ∷ 29 ∷ 7 ∷ 0 ∷ board ∷ 0 ∷ 202 ∷ 154 ∷ 59 ∷ 1 ∷ 0 ∷ 1 ∷ 0 ∷ 0 ∷ 0 ∷ 1 ∷ 0 ∷ 1 ∷ 0 ∷ []

pub board-files : (bytes_for one_board ≡ header 1 1 39 1 ++ body 1)
    × (deck_in (header 1 1 39 1 ++ body 1) ≡ deck_of one_board)
    × (file_refusal (header 1 1 39 1 ++ body 1) ≡ 0)
    × (file_refusal (take 19 (header 1 1 39 1)) ≡ 10)
    × (file_refusal (take 27 (header 0 1 39 1)) ≡ 10)
    × (file_refusal (header 0 0 39 0) ≡ 2)
    × (file_refusal (header 1 0 39 0) ≡ 12)
    × (file_refusal (header 1 1 38 0) ≡ 20)
    × (file_refusal (header 1 1 39 5) ≡ 20)
    × (file_refusal (take 22 (header 1 1 39 1) ++ (1 ∷ 0 ∷ 34 ∷ 0 ∷ 0 ∷ 0 ∷ body 1)) ≡ 20)
    × (file_refusal (header 1 1 38 1 ++ body 2) ≡ 13)
    × (file_refusal (header 1 1 39 1 ++ body 2) ≡ 21)
    × (writing_of (typed_of 3 (half ∷ []) (7 ∷ []) (1 ∷ []) [] (1 ∷ 1 ∷ 0 ∷ 1 ∷ [])) [] ≡ writing.Refused 12)
    × (writing_of (typed_of 3 (half ∷ []) (7 ∷ []) (1 ∷ []) [] (1 ∷ 1 ∷ 0 ∷ 1 ∷ 1 ∷ [])) [] ≡ writing.Refused 20)
    × (writing_of (typed_of 3 (half ∷ []) (7 ∷ []) (2 ∷ []) (half ∷ []) (1 ∷ 1 ∷ 0 ∷ 1 ∷ 1 ∷ [])) [] ≡ writing.Refused 21)
    × (writing_of (typed_of 3 (half ∷ []) (7 ∷ []) [] (half ∷ []) (1 ∷ 1 ∷ 0 ∷ 1 ∷ 1 ∷ [])) [] ≡ writing.Refused 21)
    × (writing_of one_board (replicate 48 7) ≡ writing.Refused 16)
    × (writing_of one_board (replicate 49 7) ≡ Written 49)
unfolding some list_below some_above bytes_of number_at all_bytes header_of system_numbers systems_of system_at file_of deck_in file_refusal first_of write_refusal unless writing_of
board-files = (refl, refl, refl, refl, refl, refl, refl, refl, refl, refl, refl, refl, refl, refl, refl, refl, refl, refl)

pub examples : All table
unfolding All Holds table unit_of sum_below held some first first_window first_near place_of judgment judged_of list_below total number_of some_window two_near fails weight_down ones count_if counts_of moved ended reading_of rounded value stretch board_down behind combined some_above weights_out ranged first_of verdict_refusal figures_refusal unless verdict_of figures_of
examples = (refl, (refl, (refl, (refl, (refl, (refl, (refl, (refl, (refl, (refl, (refl, (refl, (refl, tt)))))))))))))

-- request 09: "Kind 3 is excepted". Two fans at 1/4, and a system that fails if exactly one of them has: its chance is 5/8. With the second at 1/2 it is
-- 1/2.
abbrev worn : List ℕ
worn = 2 ^ 28 ∷ 2 ^ 28 ∷ []

abbrev mended : List ℕ
mended = 2 ^ 28 ∷ 2 ^ 29 ∷ []

unfoldable pub fallen : List Example
fallen =
    figures (rule_of 3 1 1) worn (Range (5 * 2 ^ 27) (5 * 2 ^ 27))
    ∷ figures (rule_of 3 1 1) mended (Range (4 * 2 ^ 27) (4 * 2 ^ 27))
    ∷ []

pub kind3-falls : (rising 3 ≡ false) × NoLower worn mended × All fallen
unfolding All Holds fallen unit_of some list_below total number_of moved ended reading_of rounded value stretch board_down behind combined some_above weights_out ranged first_of figures_refusal unless figures_of
kind3-falls = (refl, set-better worn 1 (2 ^ 28) (2 ^ 29) (omega arith), (refl, (refl, tt)))
