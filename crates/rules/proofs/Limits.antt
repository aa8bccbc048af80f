-- What stands at the edge of a definition, and on either side of it: lent tables keep their length, the heaviest total, the most systems, the numbers that a file's
-- systems have, a packed answer, a writer without systems, a float's sign. Computed by the checker, but for the lengths. Assumes nothing.
use mathlib.Core.Path.{◌≡◌, refl, ◌∙◌}
use mathlib.Core.Bool.{true, false}
use mathlib.Core.List.{List, [], ◌∷◌, ◌++◌}
use Prim.Native.Nat.{ℕ, zero, suc, ◌+◌, ◌-◌, ◌*◌, ◌^◌, ◌≤◌}
use native.Mathlib.Omega.{arith}
use lib.ListN.{length, drop, replicate, length-append, length-drop, length-replicate}
use lib.IntN.{pos}
use Rattle.rules.specs.declared.Rule.{Rule}
use Rattle.rules.specs.declared.Rating.TheVariants.{Range, Refused}
use Rattle.rules.specs.declared.Worth.TheVariants as worth
use Rattle.rules.specs.declared.Writing.TheVariants as writing
use Rattle.rules.specs.Below.{some, list_below, total}
use Rattle.rules.specs.State.{S, unit_of, rule_of, number_of}
use Rattle.rules.specs.Count.{count_of, counts_of}
use Rattle.rules.specs.Memory.{moved, ended, reading_of}
use Rattle.rules.specs.Figure.{rounded, value}
use Rattle.rules.specs.Boards.{board_down, behind, combined}
use Rattle.rules.specs.Stretch.{stretch}
use Rattle.rules.specs.Refusal.{cells, some_above, weights_out, ranged, first_of, after, verdict_refusal, figures_refusal}
use Rattle.rules.specs.Answer.{unless, figures_of, cleared, room_after}
use Rattle.rules.specs.Worth.{worth_of}
use Rattle.rules.specs.Gain.{gain_of}
use Rattle.rules.specs.File.{number_at, bytes_of, all_bytes, header_of, system_numbers, systems_of, system_at, file_of, deck_in, file_refusal, packed, system_of, loading_of, system_worth, worth_loading_of, system_gain, gain_loading_of}
use Rattle.rules.specs.Writing.{typed_of, bytes_for, write_refusal, writing_of}
use Rattle.rules.specs.Doubles.{sign}
use Rattle.rules.proofs.Lists.{below_length}

-- "cells beyond are untouched": a cleared table is as long as before
pub cleared-length : (table : List ℕ) → cells ≤ length table → length (cleared table) ≡ length table
cleared-length table long =
    length-append (replicate cells 0) (drop cells table) ∙ omega (arith, length-replicate {A = ℕ} cells 0, length-drop cells table, long)

-- "the count table's first n + 1 cells are written and the rest untouched": so is its room
pub room-length : (refusal : ℕ) (rule : Rule) (n : ℕ) (weights room : List ℕ) → suc n ≤ length room → length (room_after refusal rule n weights room) ≡ length room
unfolding room_after unless counts_of
room-length zero rule n weights room long =
    length-append (counts_of rule n weights) (drop (suc n) room) ∙ omega (arith, below_length (suc n) (count_of rule n weights), length-drop (suc n) room, long)
room-length (suc r) rule n weights room long = refl

-- "weights adding to 120 accepted, 121 refused 5"
pub heaviest-total : (verdict_refusal (rule_of 2 1 0) 2 (119 ∷ 1 ∷ []) [] 0 ≡ 0) × (verdict_refusal (rule_of 2 1 0) 2 (119 ∷ 2 ∷ []) [] 0 ≡ 5)
unfolding verdict_refusal first_of weights_out ranged total
heaviest-total = (refl, refl)

-- a header of version 1 with n = 1 and m systems alone; 12 comes before 13
abbrev counting : (m : ℕ) → List ℕ
counting m = 1 ∷ 0 ∷ 0 ∷ 0 ∷ 1 ∷ 0 ∷ m ∷ 0 ∷ 20 ∷ 0 ∷ 0 ∷ 0 ∷ 24 ∷ 0 ∷ 0 ∷ 0 ∷ 26 ∷ 0 ∷ 0 ∷ 0 ∷ []

pub most-systems : (file_refusal (counting 0) ≡ 12) × (file_refusal (counting 32) ≡ 13) × (file_refusal (counting 33) ≡ 12)
unfolding file_refusal first_of number_at
most-systems = (refl, refl, refl)

-- a file of one fan at 1/2 and one system: systems 0 and 2 are refused 14, also where a worth or a gain is asked for, and before 17
abbrev one_system : List ℕ
one_system = counting 1 ++ (0 ∷ 0 ∷ 0 ∷ 32 ∷ 0 ∷ 0 ∷ 1 ∷ 0 ∷ 1 ∷ 0 ∷ 0 ∷ 0 ∷ 1 ∷ 0 ∷ 1 ∷ 0 ∷ [])

pub system-numbers : (loading_of one_system 0 ≡ Refused 14)
    × (loading_of one_system 1 ≡ Range (2 ^ 29) (2 ^ 29))
    × (loading_of one_system 2 ≡ Refused 14)
    × (worth_loading_of one_system 0 1 ≡ worth.Refused 14)
    × (worth_loading_of one_system 1 1 ≡ worth.Ends (pos S) (pos S))
    × (worth_loading_of one_system 1 2 ≡ worth.Refused 17)
    × (worth_loading_of one_system 2 2 ≡ worth.Refused 14)
    × (gain_loading_of one_system 0 1 S ≡ worth.Refused 14)
    × (gain_loading_of one_system 1 1 S ≡ worth.Ends (pos (2 ^ 29)) (pos (2 ^ 29)))
    × (gain_loading_of one_system 1 2 S ≡ worth.Refused 17)
    × (loading_of (counting 1) 0 ≡ Refused 13)
unfolding loading_of worth_loading_of gain_loading_of system_of system_worth system_gain file_refusal first_of number_at deck_in system_at list_below figures_of figures_refusal worth_of gain_of after unless unit_of stretch some some_above weights_out ranged total board_down behind combined rounded value number_of moved ended reading_of
system-numbers = (refl, refl, refl, refl, refl, refl, refl, refl, refl, refl, refl)

-- "low times 2^32 plus high; for a refusal, (2^32 - 1) times 2^32 plus its number"
pub packings : (packed (Range 3 5) ≡ 12884901893) × (packed (Refused 14) ≡ 18446744069414584334)
packings = (refl, refl)

-- so many systems over one fan, as the office types them
abbrev typed_systems : (m : ℕ) → List ℕ
typed_systems m = list_below (5 * m) (λ i. 1)

-- "12 (a part system too)": no systems, 32 and 33 of them; 16 comes after
pub no-systems : (writing_of (typed_of 1 (S ∷ []) (1 ∷ []) [] [] []) [] ≡ writing.Refused 12)
    × (writing_of (typed_of 1 (S ∷ []) (1 ∷ []) [] [] (typed_systems 32)) [] ≡ writing.Refused 16)
    × (writing_of (typed_of 1 (S ∷ []) (1 ∷ []) [] [] (typed_systems 33)) [] ≡ writing.Refused 12)
unfolding list_below bytes_of all_bytes header_of system_numbers systems_of file_of first_of write_refusal unless writing_of
no-systems = (refl, refl, refl)

-- "its 64 bits": the sign is the highest
pub sign_bit : (sign (2 ^ 63 - 1) ≡ false) × (sign (2 ^ 63) ≡ true)
sign_bit = (refl, refl)
