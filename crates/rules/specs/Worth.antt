-- Document 02, request 06, "The worth of one fan": its two ends, its refusals, and what is promised of it.
-- "the deck's chance with that fan sure to work less its chance with it sure to fail. Report it as two signed numbers".
use Rattle.std.specs.Prelude.{◌≡◌, Bool, not, cond, List, ℕ, ◌-◌, ◌*◌, ◌^◌, ℤ, pos, neg_ℤ, ◌-ℤ◌, ◌*ℤ◌, set, ◌≤ℤ◌}
use Rattle.std.proofs.Math.IntN.{sub_ℕ}
use Rattle.rules.specs.declared.Worth.{Worth}
use Rattle.rules.specs.declared.Worth.TheVariants.{Ends, Refused}
use Rattle.rules.specs.Below.{within}
use Rattle.rules.specs.Asked.{Asked, question_in, asked_of, unit_in, parts_of, low_of, high_of, exact_of}
use Rattle.rules.specs.Refusal.{figures_refusal, after}
use Rattle.rules.specs.Answer.{unless, Given}

-- what is asked with one fan's survival number replaced, as a fan is swapped for another: "sure to work" by the unit, "sure to fail" by 0; request 11: "a fan
-- sure to work may still lose its board", so that the boards stay as they are
abbrev pub swapped : (fan p : ℕ) → Asked → Asked
swapped fan p q =
    asked_of (question_in q) (set q.survival (fan - 1) p) q.weights q.more q.boards q.switchboards

abbrev pub working : (fan : ℕ) → Asked → Asked
working fan q = swapped fan (unit_in q) q

abbrev pub failing : (fan : ℕ) → Asked → Asked
failing fan q = swapped fan 0 q

-- "the lower is the first's low less the second's high, the upper the first's high less the second's low"
abbrev pub lower_of : Asked → (fan : ℕ) → ℤ
lower_of q fan = sub_ℕ (low_of (working fan q)) (high_of (failing fan q))

abbrev pub upper_of : Asked → (fan : ℕ) → ℤ
upper_of q fan = sub_ℕ (high_of (working fan q)) (low_of (failing fan q))

-- 17: fan number outside the stretch
abbrev pub bad_fan : Asked → (fan : ℕ) → Bool
bad_fan q fan = not (within q.a fan q.b)

-- "Refusals: as for the figures, the chosen fan's own survival number included under 4 where the fan is in the stretch, then 17"
abbrev pub worth_refusal : Asked → (fan : ℕ) (table : List ℕ) → ℕ
worth_refusal q fan table = after (figures_refusal q table) (cond (bad_fan q fan) 17 0)

-- what each case of the answer says, and the answer
abbrev pub Weighs : Worth → (refusal : ℕ) (lower upper : ℤ) → Type 0
Weighs (Ends l h) refusal lower upper = (refusal ≡ 0) × (l ≡ lower) × (h ≡ upper)
Weighs (Refused number) refusal lower upper = Given number refusal

unfoldable pub worth_of : Asked → (fan : ℕ) (table : List ℕ) → Worth
worth_of q fan table = unless (worth_refusal q fan table) Refused (Ends (lower_of q fan) (upper_of q fan))

-- "Both ends run from -S to S"
pub record Signed (u : ℕ) (z : ℤ) : Type 0 where
  pub from : neg_ℤ (pos u) ≤ℤ z
  pub to : z ≤ℤ pos u

-- "The exact difference lies between them, and they are at most 2n - 2 units apart", of E with the fan sure to work and sure to fail
pub record Between (u n : ℕ) (lower upper : ℤ) (works fails : ℕ) : Type 0 where
  pub above_lower : (lower *ℤ pos (u ^ (n - 1))) ≤ℤ sub_ℕ works fails
  pub below_upper : sub_ℕ works fails ≤ℤ (upper *ℤ pos (u ^ (n - 1)))
  pub width : (upper -ℤ lower) ≤ℤ pos (2 * n - 2)
  pub lower_signed : Signed u lower
  pub upper_signed : Signed u upper

-- n is the stretch's length; request 11: "Req 06's width reads n + g for n"
abbrev pub BetweenOf : Asked → (fan : ℕ) (lower upper : ℤ) → Type 0
BetweenOf q fan lower upper = Between (unit_in q) (parts_of q) lower upper (exact_of (working fan q)) (exact_of (failing fan q))
