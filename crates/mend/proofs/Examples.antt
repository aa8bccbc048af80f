-- Worked out by the checker: a file of one fan and one system whose zero field is set, with a wrong offset and two bytes behind its end; rooms that just suffice, one
-- cell longer and one shorter; 22, and 12 before it. Assumes nothing.
use mathlib.Core.Path.{◌≡◌, refl}
use mathlib.Core.List.{List, [], ◌∷◌, ◌++◌}
use Prim.Native.Nat.{ℕ}
use lib.ListN.{take, replicate}
use Rattle.rules.specs.declared.Mending.TheVariants.{Mended, Refused}
use Rattle.rules.specs.Below.{held}
use Rattle.rules.specs.Refusal.{first_of, after}
use Rattle.rules.specs.Answer.{unless}
use Rattle.rules.specs.File.{bytes_of, number_at, all_bytes, header_of}
use Rattle.rules.specs.Mending.{mended, changes_below, changes_in, cut_from, beyond_mending, mend_refusal, mending_of, room_mended, list_mended}

-- from the header's third number on: its body, a survival number, a weight and a system
abbrev body : List ℕ
body = 0 ∷ 202 ∷ 154 ∷ 59 ∷ 7 ∷ 0 ∷ 1 ∷ 0 ∷ 1 ∷ 0 ∷ 0 ∷ 0 ∷ 1 ∷ 0 ∷ 1 ∷ 0 ∷ []

abbrev file_with : (third systems weights : ℕ) → List ℕ
file_with third systems weights = 2 ∷ 0 ∷ third ∷ 0 ∷ 1 ∷ 0 ∷ systems ∷ 0 ∷ 20 ∷ 0 ∷ 0 ∷ 0 ∷ weights ∷ 0 ∷ 0 ∷ 0 ∷ 26 ∷ 0 ∷ 0 ∷ 0 ∷ body

abbrev sound : List ℕ
sound = file_with 0 1 24

abbrev damaged : List ℕ
damaged = file_with 5 1 33 ++ (1 ∷ 2 ∷ [])

abbrev changed : List ℕ
changed = 2 ∷ 5 ∷ 0 ∷ 12 ∷ 33 ∷ 24 ∷ []

pub mendings : (mended damaged ≡ sound)
    × (changes_in damaged ≡ changed)
    × (cut_from damaged ≡ 2)
    × (mending_of damaged (replicate 36 7) (replicate 6 7) ≡ Mended 36 2 2)
    × (room_mended damaged (replicate 37 7) (replicate 6 7) ≡ sound ++ (7 ∷ []))
    × (list_mended damaged (replicate 36 7) (replicate 7 7) ≡ changed ++ (7 ∷ []))
    × (mending_of damaged (replicate 35 7) (replicate 6 7) ≡ Refused 16)
    × (mending_of damaged (replicate 36 7) (replicate 5 7) ≡ Refused 16)
    × (room_mended damaged (replicate 36 7) (replicate 5 7) ≡ replicate 36 7)
    × (mending_of sound (replicate 36 7) [] ≡ Mended 36 0 0)
    × (mending_of (take 35 damaged) [] [] ≡ Refused 22)
    × (mending_of (file_with 5 33 33) [] [] ≡ Refused 12)
    × (mending_of (file_with 5 2 33) [] [] ≡ Refused 22)
unfolding held bytes_of number_at all_bytes header_of mended changes_below first_of after beyond_mending mend_refusal unless mending_of room_mended list_mended
mendings = (refl, refl, refl, refl, refl, refl, refl, refl, refl, refl, refl, refl, refl)
