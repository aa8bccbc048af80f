-- Document 02, request 10, "Doubles to and from the planning office": a float's own value, the whole numbers just below and above it, what the office
-- asks in floats, what it is answered and what is promised of that; and the figures that go out. A float stands here by its 64 bits.
use Rattle.std.specs.Prelude.{Bool, true, false, cond, not, ◌&&◌, ◌||◌, List, [], ◌∷◌, map, ℕ, zero, suc, ◌+◌, ◌-◌, ◌*◌, ◌/◌, ◌%◌, ◌^◌, ◌≤◌, leb, eqb, length, get_or}
use Rattle.rules.specs.declared.Rule.{Rule}
use Rattle.rules.specs.declared.Rating.{Rating}
use Rattle.rules.specs.declared.Rating.TheVariants.{Range, Refused}
use Rattle.rules.specs.Below.{some}
use Rattle.rules.specs.State.{S}
use Rattle.rules.specs.Figure.{rounded, exact}
use Rattle.rules.specs.Stretch.{stretch}
use Rattle.rules.specs.Asked.{Asked, question_of, asked_of, size_of, weights_of, read_of, low_of, high_of}
use Rattle.rules.specs.Refusal.{bad_kind, bad_size, bad_stretch, bad_weights, in_range, short_table, first_of}
use Rattle.rules.specs.Better.{excepted}
use Rattle.rules.specs.Answer.{unless}
use Rattle.rules.specs.File.{version_in, short_file, loading_of}

-- ---- a float's own value

-- "parts in 2^1074": what a float of 1 is
unfoldable pub parts : ℕ
parts = 2 ^ 1074

-- the 64 bits: a sign, 11 bits of exponent, 52 of fraction
abbrev pub sign : ℕ → Bool
sign b = leb (2 ^ 63) b

abbrev pub exponent : ℕ → ℕ
exponent b = b % 2 ^ 63 / 2 ^ 52

abbrev pub fraction : ℕ → ℕ
fraction b = b % 2 ^ 52

-- an exponent of 0 has no leading one (zero, the subnormals); any other has it, and the fraction's last bit is 2^(exponent - 1) parts
unfoldable pub spelt : (exponent fraction : ℕ) → ℕ
spelt zero f = f
spelt (suc e) f = (2 ^ 52 + f) * 2 ^ e

-- "A float's own value is the whole number of parts in 2^1074 that its 64 bits spell", its sign left out
unfoldable pub own : ℕ → ℕ
own b = spelt (exponent b) (fraction b)

-- ---- coming in

-- "a NaN": the exponent is all ones, and the fraction is not 0
abbrev pub not_aNumber : ℕ → Bool
not_aNumber b = eqb (exponent b) 2047 && not (eqb (fraction b) 0)

-- "a survival chance is a float from 0 to 1", "Negative zero is 0": no NaN, no sign unless it is zero, and no more than 1
unfoldable pub is_chance : ℕ → Bool
is_chance b = not (not_aNumber b) && (not (sign b) || eqb (own b) 0) && leb (own b) parts

-- "times 2^30 (exact too) it becomes the whole number just below and the one just above"
unfoldable pub whole_of : (up : Bool) (b : ℕ) → ℕ
whole_of up b = rounded up parts (own b * S)

-- "on the grid": "nothing is lost"
unfoldable pub on_grid : ℕ → Bool
on_grid b = eqb (own b * S % parts) 0

-- what the planning office asks: a rating, its survival chances floats
pub record Planned : Type 0 where
  pub rule : Rule
  pub a : ℕ
  pub b : ℕ
  pub survival : List ℕ
  pub weights : List ℕ
  pub more : List ℕ

abbrev pub planned_of : Rule → (a b : ℕ) (survival weights more : List ℕ) → Planned
planned_of rule a b survival weights more = record { rule = rule; a = a; b = b; survival = survival; weights = weights; more = more }

-- the same asked in whole numbers of version 1's unit, 2^30: of the lower list, and of the upper
abbrev pub asked_in : (up : Bool) → Planned → Asked
asked_in up q = asked_of (question_of 1 q.rule q.a q.b) (map (whole_of up) q.survival) q.weights q.more [] []

-- "Low comes from the lower list and high from the upper"
abbrev pub low_in : Planned → ℕ
low_in q = low_of (asked_in false q)

abbrev pub high_in : Planned → ℕ
high_in q = high_of (asked_in true q)

-- the floats that are read, how many they are, and what is read with the rule
abbrev pub floats_of : Planned → List ℕ
floats_of q = stretch q.a q.b q.survival

abbrev pub size_in : Planned → ℕ
size_in q = size_of (asked_in false q)

abbrev pub read_in : Planned → List ℕ
read_in q = read_of (asked_in false q)

-- "with E added up from those, 2^1074 in S's place"
abbrev pub exact_in : Planned → ℕ
exact_in q = exact parts q.rule (map own (floats_of q)) (read_in q)

-- 18: "a NaN or a value outside 0..1"
unfoldable pub no_chance : List ℕ → Bool
no_chance floats = some (λ i. not (is_chance (get_or floats i 0))) (length floats)

-- 19: "kind 3 off the grid": "Kind 3 is answered only where every float is on the grid", since request 09 does not claim it
unfoldable pub some_off : List ℕ → Bool
some_off floats = some (λ i. not (on_grid (get_or floats i 0))) (length floats)

abbrev pub off_grid : Rule → (floats : List ℕ) → Bool
off_grid rule floats = excepted rule.kind && some_off floats

-- the figures' refusals, "18 .. in the place of 4; 19 .. after 6"; the version is no input here
unfoldable pub planned_refusal : Planned → (table : List ℕ) → ℕ
planned_refusal q table =
    let n = length q.survival in
    first_of
    ((1, bad_kind q.rule)
    ∷ (2, bad_size n)
    ∷ (3, bad_stretch q.a q.b n)
    ∷ (18, no_chance (floats_of q))
    ∷ (5, bad_weights q.rule n q.weights (weights_of (asked_in false q)))
    ∷ (6, not (in_range q.rule (size_in q) (read_in q)))
    ∷ (19, off_grid q.rule (floats_of q))
    ∷ (7, short_table table)
    ∷ [])

unfoldable pub planned_rating : Planned → (table : List ℕ) → Rating
planned_rating q table = unless (planned_refusal q table) Refused (Range (low_in q) (high_in q))

-- "at most 2n - 1 units apart"; under kind 3 both lists are one, and n - 1
abbrev pub widest : Rule → (n : ℕ) → ℕ
widest rule n = cond (excepted rule.kind) (n - 1) (2 * n - 1)

-- "the enclosure reads: low times 2^(1074n) <= E times 2^30 <= high times 2^(1074n)"
pub record Spanned (n widest low high E : ℕ) : Type 0 where
  pub above_low : low * 2 ^ (1074 * n) ≤ E * 2 ^ 30
  pub below_high : E * 2 ^ 30 ≤ high * 2 ^ (1074 * n)
  pub width : high - low ≤ widest

-- n is the stretch's length
abbrev pub SpannedOf : Planned → (low high : ℕ) → Type 0
SpannedOf q low high = Spanned (size_in q) (widest q.rule (size_in q)) low high (exact_in q)

-- ---- going out

-- "low and high of a version 1 deck": a file of another version is refused 11 in 11's place, right after 10
unfoldable pub other_refusal : (bytes : List ℕ) → ℕ
other_refusal bytes = first_of ((10, short_file bytes) ∷ (11, not (eqb (version_in bytes) 1)) ∷ [])

-- the figures that go out: of a file's system, counted from 1
unfoldable pub export_of : (bytes : List ℕ) (s : ℕ) → Rating
export_of bytes s = unless (other_refusal bytes) Refused (loading_of bytes s)
