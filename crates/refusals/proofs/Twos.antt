-- The further pairs, read in chunks of two numbers: a chunk is the first pair of what is left, and less than a chunk is none. Assumes nothing.
use mathlib.Core.Path.{◌≡◌, refl}
use mathlib.Core.List.{List, [], ◌∷◌, ◌++◌}
use Prim.Native.Nat.{ℕ, ◌<◌}
use native.Mathlib.Omega.{arith}
use lib.ListN.{length, get_or}
use Rattle.rules.specs.Pairs.{pair_of, pairs_in}

pub short : (xs : List ℕ) → length xs < 2 → pairs_in xs ≡ []
unfolding pairs_in
short [] l = refl
short (a ∷ []) l = refl
short (a ∷ b ∷ xs) l = absurd (omega arith)

pub front : (x rest : List ℕ) → length x ≡ 2 → pairs_in (x ++ rest) ≡ pair_of (get_or x 0 0) (get_or x 1 0) ∷ pairs_in rest
unfolding pairs_in
front [] rest e = absurd (omega arith)
front (a ∷ []) rest e = absurd (omega arith)
front (a ∷ b ∷ []) rest e = refl
front (a ∷ b ∷ c ∷ xs) rest e = absurd (omega arith)
