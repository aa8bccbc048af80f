-- Doubles by their bits, computed by the checker: own values, which are chances, their whole numbers, ratings, the order of refusals, and the files that go
-- out. Assumes nothing.
use mathlib.Core.Path.{◌≡◌, refl}
use mathlib.Core.Bool.{true, false}
use mathlib.Core.List.{List, [], ◌∷◌}
use Prim.Native.Nat.{ℕ, suc, ◌+◌, ◌-◌, ◌*◌, ◌^◌}
use lib.ListN.{replicate}
use Rattle.rules.specs.declared.Rule.{Rule}
use Rattle.rules.specs.declared.Rating.{Rating}
use Rattle.rules.specs.declared.Rating.TheVariants.{Range, Refused}
use Rattle.rules.specs.Below.{some, list_below, total}
use Rattle.rules.specs.State.{S, unit_of, rule_of, number_of}
use Rattle.rules.specs.Memory.{moved, ended, reading_of}
use Rattle.rules.specs.Figure.{rounded, value}
use Rattle.rules.specs.Boards.{board_down, behind, combined}
use Rattle.rules.specs.Stretch.{stretch}
use Rattle.rules.specs.Refusal.{last_kind, cells, weights_out, ranged, first_of}
use Rattle.rules.specs.Answer.{unless}
use Rattle.rules.specs.File.{number_at}
use Rattle.rules.specs.Doubles.{parts, spelt, own, is_chance, whole_of, on_grid, planned_of, no_chance, some_off, planned_refusal, planned_rating, other_refusal}

-- the bits of 1, of 1/2, of 2^-31 and of one and a half in 2^30; of negative zero; of a NaN, and of the infinities
abbrev one : ℕ
one = 1023 * 2 ^ 52

abbrev half : ℕ
half = 1022 * 2 ^ 52

abbrev half_part : ℕ
half_part = 992 * 2 ^ 52

abbrev part : ℕ
part = 993 * 2 ^ 52

abbrev part_and_half : ℕ
part_and_half = 993 * 2 ^ 52 + 2 ^ 51

abbrev negative : ℕ
negative = 2 ^ 63

abbrev infinity : ℕ
infinity = 2047 * 2 ^ 52

abbrev not_number : ℕ
not_number = infinity + 1

-- nothing; the smallest double, one part; the largest without a leading one, and the next; 1/2, 1, and the doubles on either side of 1
pub owns : (own 0 ≡ 0) × (own negative ≡ 0) × (own 1 ≡ 1) × (own (2 ^ 52 - 1) ≡ 2 ^ 52 - 1) × (own (2 ^ 52) ≡ 2 ^ 52) × (own half ≡ 2 ^ 1073) × (own one ≡ parts)
    × (own (one - 1) ≡ parts - 2 ^ 1021) × (own (one + 1) ≡ parts + 2 ^ 1022)
unfolding own spelt parts
owns = (refl, refl, refl, refl, refl, refl, refl, refl, refl)

-- from 0 to 1, and negative zero; past 1, below 0, infinite, no number
pub chances : (is_chance 0 ≡ true) × (is_chance negative ≡ true) × (is_chance 1 ≡ true) × (is_chance one ≡ true) × (is_chance (one + 1) ≡ false)
    × (is_chance (negative + 1) ≡ false) × (is_chance (negative + one) ≡ false) × (is_chance infinity ≡ false) × (is_chance (negative + infinity) ≡ false)
    × (is_chance not_number ≡ false) × (is_chance (negative + not_number) ≡ false)
unfolding is_chance own spelt parts
chances = (refl, refl, refl, refl, refl, refl, refl, refl, refl, refl, refl)

-- just below and just above: one where nothing is lost
pub wholes : (whole_of false 1 ≡ 0) × (whole_of true 1 ≡ 1) × (whole_of false half_part ≡ 0) × (whole_of true half_part ≡ 1) × (whole_of false part ≡ 1) × (whole_of true part ≡ 1)
    × (whole_of false part_and_half ≡ 1) × (whole_of true part_and_half ≡ 2) × (whole_of false (one - 1) ≡ S - 1) × (whole_of true (one - 1) ≡ S)
    × (whole_of false one ≡ S) × (whole_of true one ≡ S) × (on_grid part ≡ true) × (on_grid part_and_half ≡ false) × (on_grid negative ≡ true)
unfolding whole_of on_grid own spelt parts rounded
wholes = (refl, refl, refl, refl, refl, refl, refl, refl, refl, refl, refl, refl, refl, refl, refl)

-- a rating over a table that suffices
abbrev rated : Rule → (a b : ℕ) (survival : List ℕ) → Rating
rated rule a b survival = planned_rating (planned_of rule a b survival [] []) (replicate cells 0)

-- Low from the lower list and high from the upper: one fan, and two of which one must work, each at one and a half in 2^30. What stands beside the
-- stretch is not read.
pub ratings : (rated (rule_of 1 1 0) 1 1 (half_part ∷ []) ≡ Range 0 1)
    × (rated (rule_of 1 2 0) 1 2 (part_and_half ∷ part_and_half ∷ []) ≡ Range 1 4)
    × (rated (rule_of 1 1 0) 2 2 (not_number ∷ half ∷ not_number ∷ []) ≡ Range (2 ^ 29) (2 ^ 29))
    × (rated (rule_of 3 1 1) 1 1 (half ∷ []) ≡ Range (2 ^ 29) (2 ^ 29))
unfolding planned_rating planned_refusal no_chance some_off is_chance whole_of on_grid own spelt parts rounded value number_of moved ended reading_of unit_of stretch behind combined board_down list_below some total weights_out ranged first_of unless
ratings = (refl, refl, refl, refl)

-- 18 in 4's place, before 5 and 6; 19 for kind 3 alone, after 6 and before 7
pub refusals : (rated (rule_of 1 1 0) 1 1 (not_number ∷ []) ≡ Refused 18)
    × (rated (rule_of 2 0 0) 1 1 ((one + 1) ∷ []) ≡ Refused 18)
    × (rated (rule_of (suc last_kind) 0 0) 1 1 (not_number ∷ []) ≡ Refused 1)
    × (rated (rule_of 1 1 0) 1 2 (not_number ∷ []) ≡ Refused 3)
    × (rated (rule_of 2 0 0) 1 1 (half_part ∷ []) ≡ Refused 5)
    × (rated (rule_of 3 1 0) 1 1 (half_part ∷ []) ≡ Refused 6)
    × (rated (rule_of 3 0 1) 1 1 (half_part ∷ []) ≡ Refused 19)
    × (planned_rating (planned_of (rule_of 3 0 1) 1 1 (half_part ∷ []) [] []) [] ≡ Refused 19)
    × (planned_rating (planned_of (rule_of 3 0 1) 1 1 (half ∷ []) [] []) [] ≡ Refused 7)
unfolding planned_rating planned_refusal no_chance some_off is_chance whole_of on_grid own spelt parts rounded value number_of moved ended reading_of unit_of stretch behind combined board_down list_below some total weights_out ranged first_of unless
refusals = (refl, refl, refl, refl, refl, refl, refl, refl, refl)

-- a file of version 1, of version 2, of version 3 without a whole header, and one too short to have a version
pub versions : (other_refusal (1 ∷ 0 ∷ replicate 18 0) ≡ 0) × (other_refusal (2 ∷ 0 ∷ replicate 18 0) ≡ 11) × (other_refusal (3 ∷ 0 ∷ replicate 18 0) ≡ 11)
    × (other_refusal (2 ∷ 0 ∷ replicate 17 0) ≡ 10)
unfolding other_refusal first_of number_at
versions = (refl, refl, refl, refl)
