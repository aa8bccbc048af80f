-- Best pairs worked by hand: of three places, of a tie, and where every low is 0. Assumes nothing.
use mathlib.Core.Path.{◌≡◌, refl}
use Prim.Native.Nat.{ℕ, ◌+◌, ◌-◌}
use Rattle.rules.specs.Below.{some, first}
use Rattle.spares.specs.Highest.{highest}
use Rattle.pairs.specs.Pairs.{highest_pair, first_place, second_place}

-- the highest low, and the pair that has it
abbrev Best-is : (low : ℕ → ℕ → ℕ) (n top i j : ℕ) → Type 0
Best-is low n top i j = (highest_pair low n ≡ top) × (first_place low n ≡ i) × (second_place low n ≡ j)

-- 1, 2 and 3; then 1, 2 and 1, where the pair in the middle has it
pub of_three : Best-is ◌+◌ 3 3 1 2 × Best-is (λ i j. j - i) 3 2 0 2
unfolding highest some first highest_pair first_place second_place
of_three = ((refl, refl, refl), (refl, refl, refl))

-- of pairs that have it alike the first is named, also where it is 0
pub of-ties : Best-is (λ i j. 4) 4 4 0 1 × Best-is (λ i j. 0) 3 0 0 1
unfolding highest some first highest_pair first_place second_place
of-ties = ((refl, refl, refl), (refl, refl, refl))
