-- Worked out by the checker: where files end in a stream. Assumes nothing.
use mathlib.Core.Path.{◌≡◌, refl}
use mathlib.Core.List.{List, [], ◌∷◌, ◌++◌}
use Prim.Native.Nat.{ℕ}
use lib.ListN.{take}
use Rattle.rules.specs.Answer.{unless}
use Rattle.rules.specs.Refusal.{first_of}
use Rattle.rules.specs.File.{number_at}
use Rattle.deck.specs.Head.{counts_refusal}
use Rattle.ending.specs.Ending.{asks, file_at, rest_at}

-- a deck of one fan and one system; and a header of version 9, which no file has
abbrev pub small : List ℕ
small =
    1 ∷ 0 ∷ 0 ∷ 0 ∷ 1 ∷ 0 ∷ 1 ∷ 0 ∷ 20 ∷ 0 ∷ 0 ∷ 0 ∷ 24 ∷ 0 ∷ 0 ∷ 0 ∷ 26 ∷ 0 ∷ 0 ∷ 0 ∷ 0 ∷ 0 ∷ 0 ∷ 32 ∷ 0 ∷ 0 ∷ 1 ∷ 0 ∷ 1 ∷ 0 ∷ 0 ∷ 0 ∷ 1 ∷ 0 ∷ 1 ∷ 0 ∷ []

abbrev pub unknown : List ℕ
unknown = 9 ∷ 0 ∷ 0 ∷ 0 ∷ 1 ∷ 0 ∷ 1 ∷ 0 ∷ 20 ∷ 0 ∷ 0 ∷ 0 ∷ 24 ∷ 0 ∷ 0 ∷ 0 ∷ 26 ∷ 0 ∷ 0 ∷ 0 ∷ []

-- a file and what stands behind it, a refused one likewise, and one that is cut short
pub files : (file_at (small ++ small) ≡ small)
    × (rest_at (small ++ small) ≡ small)
    × (file_at (unknown ++ small) ≡ unknown)
    × (rest_at (unknown ++ small) ≡ small)
    × (file_at (take 30 small) ≡ take 30 small)
    × (rest_at (take 30 small) ≡ [])
    × (asks (take 19 small) ≡ 20)
    × (asks (take 20 small) ≡ 36)
unfolding asks number_at counts_refusal first_of unless
files = (refl, refl, refl, refl, refl, refl, refl, refl)
