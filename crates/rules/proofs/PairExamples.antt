-- Kind 8: verdicts, ranges and figures, computed by the checker. Assumes nothing.
use mathlib.Core.Path.{◌≡◌, refl}
use mathlib.Core.Bool.{Bool, true, false}
use mathlib.Core.List.{List, [], ◌∷◌}
use Prim.Native.Nat.{ℕ, ◌*◌, ◌^◌}
use lib.Count.{ones}
use Rattle.rules.specs.declared.Pair.{Pair}
use Rattle.rules.specs.Below.{held, some}
use Rattle.rules.specs.State.{S, number_of}
use Rattle.rules.specs.Memory.{moved, ended, longest, lacking_in, remembered, row8}
use Rattle.rules.specs.Figure.{rounded, value, figure_of}
use Rattle.rules.specs.Pairs.{pairs_in, pairs_of, any_of, all_of, fails8, in_range8, bad_more}

-- request 05's own rule: "any 5 fans, at least 2 running, and any 8, at least 4 running"
abbrev two_pairs : List Pair
two_pairs = pairs_of 2 5 (4 ∷ 8 ∷ [])

-- Any 3 at least 2, of 4: components 1 and 4 failed works, 1 and 3 fails. The rule of two pairs, of 8: 1 to 4 failed fails by the first, 1, 3, 5, 7 and
-- 8 by the second, 1, 3, 5, 7 works.
pub verdicts : (fails8 (pairs_of 2 3 []) 4 9 ≡ false) × (fails8 (pairs_of 2 3 []) 4 5 ≡ true) × (fails8 two_pairs 8 15 ≡ true) × (fails8 two_pairs 8 213 ≡ true)
    × (fails8 two_pairs 8 85 ≡ false)
unfolding pairs_in fails8 any_of some held
verdicts = (refl, refl, refl, refl, refl)

-- r = n, and r = n + 1; a window of 11; more than r of r; none of r; a further pair out of range; an odd number, and a fifth pair
pub ranges : (in_range8 8 two_pairs ≡ true) × (in_range8 7 two_pairs ≡ false) × (in_range8 64 (pairs_of 1 11 []) ≡ false) × (in_range8 64 (pairs_of 4 3 []) ≡ false)
    × (in_range8 64 (pairs_of 0 3 []) ≡ false) × (in_range8 64 (pairs_of 1 2 (0 ∷ 2 ∷ [])) ≡ false)
    × (bad_more (4 ∷ 8 ∷ []) ≡ false) × (bad_more (4 ∷ []) ≡ true) × (bad_more (1 ∷ 1 ∷ 1 ∷ 1 ∷ 1 ∷ 1 ∷ 1 ∷ 1 ∷ []) ≡ true)
unfolding pairs_in in_range8 all_of
ranges = (refl, refl, refl, refl, refl, refl, refl, refl, refl)

-- two fans of which one must work, each at 1 part: low 1, high 2. Three at 1/2 of which of any 2 one must work: 5 states of 8.
pub figures : (figure_of (row8 (pairs_of 1 2 [])) false S (1 ∷ 1 ∷ []) ≡ 1) × (figure_of (row8 (pairs_of 1 2 [])) true S (1 ∷ 1 ∷ []) ≡ 2)
    × (figure_of (row8 (pairs_of 1 2 [])) false S (2 ^ 29 ∷ 2 ^ 29 ∷ 2 ^ 29 ∷ []) ≡ 5 * 2 ^ 27)
unfolding pairs_in any_of longest lacking_in remembered ones moved ended value rounded number_of
figures = (refl, refl, refl)
