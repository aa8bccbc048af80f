-- Worked out by the checker: words and numbers. Assumes nothing.
use mathlib.Core.Path.{◌≡◌, refl}
use mathlib.Core.List.{[], ◌∷◌}
use Prim.Native.Nat.{◌+◌}
use Rattle.rules.specs.State.{unit_of}
use Rattle.text.specs.Decimal.{text}
use Rattle.grammar.specs.Words.{lines_on, lines_of, words_on, words_of}
use Rattle.grammar.specs.Numbers.{digits_on, whole, none, point_in, decimal_at, fraction, share, off_grid, parts}

pub words : (words_of (text " fan\t0.5 \r") ≡ (text "fan" ∷ text "0.5" ∷ []))
    × (words_of (text "fan 1#2 3") ≡ (text "fan" ∷ text "1" ∷ []))
    × (words_of (text " # fan") ≡ [])
    × (lines_of (text "a\n\nb") ≡ (text "a" ∷ [] ∷ text "b" ∷ []))
    × (lines_of (text "a\n") ≡ (text "a" ∷ []))
    × (lines_of [] ≡ [])
unfolding lines_on words_on
words = (refl, refl, refl, refl, refl, refl)

pub numbers : (whole (text "007") ≡ 7)
    × (whole (text "4294967295") ≡ 4294967295)
    × (whole (text "4294967296") ≡ none)
    × (whole (text "7x") ≡ none)
    × (whole [] ≡ none)
    × (fraction (text "0.5") ≡ 500000000)
    × (fraction (text "0.05") ≡ 50000000)
    × (fraction (text "0.123456789") ≡ 123456789)
    × (fraction (text "1.0") ≡ 1000000000)
    × (fraction (text "1.000000001") ≡ none)
    × (fraction (text "0.0000000000") ≡ none)
    × (fraction (text ".5") ≡ none)
    × (fraction (text "0.") ≡ none)
    × (fraction (text "0.5.5") ≡ none)
    × (parts 2 (text "0.9995") ≡ 999500000)
    × (parts 1 (text "0.5") ≡ 536870912)
    × (parts 1 (text "0.9") ≡ off_grid + 966367641)
    × (parts 1 (text "half") ≡ none)
unfolding digits_on whole point_in decimal_at share parts unit_of
numbers = (refl, refl, refl, refl, refl, refl, refl, refl, refl, refl, refl, refl, refl, refl, refl, refl, refl, refl)
