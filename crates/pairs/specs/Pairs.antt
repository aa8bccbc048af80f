-- Where two like spares go together: "the best two places", by trying every pair. A pair is two places of a stretch, counted from 0, the lower one first. The best one
-- is the first with the highest low, in the order of the first place and then of the second.
use Rattle.std.specs.Prelude.{ℕ, suc, ◌+◌, ◌-◌, Bool, true, ◌&&◌, eqb, ltb}
use Rattle.rules.specs.Below.{sum_below, some, first}
use Rattle.rules.specs.Asked.{Asked, low_of, high_of}
use Rattle.rules.specs.Gain.{swapped_both}
use Rattle.spares.specs.Highest.{highest}

-- the figures with a spare in both places
abbrev pub low_with_both : Asked → (p i j : ℕ) → ℕ
low_with_both q p i j = low_of (swapped_both (q.a + i) (q.a + j) p q)

abbrev pub high_with_both : Asked → (p i j : ℕ) → ℕ
high_with_both q p i j = high_of (swapped_both (q.a + i) (q.a + j) p q)

-- the highest low of the pairs of n places whose first place is i, and of all pairs
abbrev pub highest_from : (low : ℕ → ℕ → ℕ) (n i : ℕ) → ℕ
highest_from low n i = highest (low i) (ltb i) n

unfoldable pub highest_pair : (low : ℕ → ℕ → ℕ) (n : ℕ) → ℕ
highest_pair low n = highest (highest_from low n) (λ i. true) n

-- is (i, j) a pair that has it?
abbrev pub has_highest : (low : ℕ → ℕ → ℕ) (n i j : ℕ) → Bool
has_highest low n i j = ltb i j && eqb (low i j) (highest_pair low n)

-- the first such pair
unfoldable pub first_place : (low : ℕ → ℕ → ℕ) (n : ℕ) → ℕ
first_place low n = first (λ i. some (has_highest low n i) n) n

unfoldable pub second_place : (low : ℕ → ℕ → ℕ) (n : ℕ) → ℕ
second_place low n = first (has_highest low n (first_place low n)) n

-- how many pairs have their first place below i: n - 1, n - 2, .. of them
abbrev pub pairs_below : (n i : ℕ) → ℕ
pairs_below n i = sum_below i (λ k. n - suc k)
