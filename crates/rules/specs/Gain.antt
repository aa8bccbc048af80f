-- Where a spare goes: the gain of a spare with survival number P in the place of one fan, its refusals, and what is promised of it; and the figures with one or two
-- such spares in place. Worth (request 06) asks what a fan does for the chance, whatever its own number; gain asks what the spare adds to the chance as it is.
use Rattle.std.specs.Prelude.{◌≡◌, Bool, cond, ◌||◌, List, ℕ, ◌-◌, ltb, ℤ, get_or}
use Rattle.std.proofs.Math.IntN.{sub_ℕ}
use Rattle.rules.specs.declared.Worth.{Worth}
use Rattle.rules.specs.declared.Worth.TheVariants.{Ends, Refused}
use Rattle.rules.specs.Asked.{Asked, unit_in, parts_of, low_of, high_of, exact_of}
use Rattle.rules.specs.Refusal.{numbers_above, rating_refusal, after}
use Rattle.rules.specs.Answer.{unless}
use Rattle.rules.specs.Worth.{swapped, bad_fan, Between}

-- the fan's own survival number
abbrev pub own_of : Asked → (fan : ℕ) → ℕ
own_of q fan = get_or q.survival (fan - 1) 0

-- the figures with the fan's number replaced by P, less the figures as they are: the lower is the low after less the high before, the upper the high after less
-- the low before
abbrev pub gain_lower : Asked → (fan p : ℕ) → ℤ
gain_lower q fan p = sub_ℕ (low_of (swapped fan p q)) (high_of q)

abbrev pub gain_upper : Asked → (fan p : ℕ) → ℤ
gain_upper q fan p = sub_ℕ (high_of (swapped fan p q)) (low_of q)

-- 4: P above the unit, like any survival number and in its place
abbrev pub spare_above : Asked → (p : ℕ) → Bool
spare_above q p = ltb (unit_in q) p || numbers_above q

-- the refusals of the figures, P among the survival numbers; then 17, fan number outside the stretch
abbrev pub gain_refusal : Asked → (fan p : ℕ) (table : List ℕ) → ℕ
gain_refusal q fan p table = after (rating_refusal (spare_above q p) q table) (cond (bad_fan q fan) 17 0)

unfoldable pub gain_of : Asked → (fan p : ℕ) (table : List ℕ) → Worth
gain_of q fan p table = unless (gain_refusal q fan p table) Refused (Ends (gain_lower q fan p) (gain_upper q fan p))

-- the exact difference lies between the ends, which are at most 2(n + g) - 2 apart and run from -S to S, of E with the spare and of E as it is
abbrev pub GainBetween : Asked → (fan p : ℕ) (lower upper : ℤ) → Type 0
GainBetween q fan p lower upper = Between (unit_in q) (parts_of q) lower upper (exact_of (swapped fan p q)) (exact_of q)

-- two such spares: what is asked with P in two places; in one where both are the same
abbrev pub swapped_both : (first second p : ℕ) → Asked → Asked
swapped_both first second p q = swapped second p (swapped first p q)
