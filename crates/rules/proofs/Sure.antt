-- Request 06: the exact difference lies between the two ends of a fan's worth, which are at most 2n - 2 apart, with boards 2(n + g) - 2, and run from minus the unit to the unit. A rating that is
-- not refused is not refused with one of its fans' numbers replaced by 0 or the unit, so the third condition holds of both ratings; the rest is two
-- inequalities. Nothing is rounded here. Assumes nothing.
use mathlib.Core.Path.{◌≡◌, refl, sym, ap, ap₂, ◌∙◌}
use mathlib.Core.Logic.{◌↔◌}
use mathlib.Core.Bool.{Bool, true, false, cond, ◌||◌}
use mathlib.Core.List.{List, [], ◌∷◌}
use Prim.Native.Nat.{ℕ, zero, suc, ◌+◌, ◌*◌, ◌-◌, ◌^◌, ◌≤◌, ◌<◌, zero-le}
use native.Mathlib.Omega.{arith}
use native.Mathlib.Nat.{le_refl}
use lib.Dec.{ltb}
use lib.IntN.{ℤ, sub_ℕ}
use lib.ListN.{length, get_or, set, length-set}
use Rattle.rules.specs.declared.Worth.{Worth}
use Rattle.rules.specs.declared.Worth.TheVariants.{Ends, Refused}
use Rattle.rules.specs.Figure.{Third}
use Rattle.rules.specs.Stretch.{stretch}
use Rattle.rules.specs.Asked.{Asked, unit_in, length_of, parts_of, part_of, weights_of, read_of, boards_of, switchboards_of, board_count, rounded_of, low_of, high_of, ThirdOf}
use Rattle.rules.specs.Refusal.{after, some_above, bad_weights, bad_size, bad_stretch, misplaced, figures_refusal}
use Rattle.rules.specs.Answer.{unless, figures_of}
use Rattle.rules.specs.Worth.{swapped, lower_of, upper_of, Weighs, worth_of, Signed, Between, BetweenOf}
use Rattle.rules.proofs.Tests.{by-test}
use Rattle.rules.proofs.Unless.{unless-none}
use Rattle.rules.proofs.Answer.{given_is, none_is}
use Rattle.rules.proofs.Conditions.{above-none}
use Rattle.rules.proofs.Units.{unit-some}
use Rattle.rules.proofs.Boards.{behind-within}
use Rattle.rules.proofs.Accepted.{first-same, in-stretch, stretch-get, figures-ratable, figures-boarded, figures-third}
use Rattle.rules.proofs.Differences.{less-le, less_none, none-less, less-less, less-times}

-- ---- a number replaced

-- one that is not above the unit stands where a number may not be above it
set-within : (u p : ℕ) → p ≤ u → (xs : List ℕ) (j i : ℕ) → get_or xs i 0 ≤ u → get_or (set xs j p) i 0 ≤ u
set-within u p h [] j i s = s
set-within u p h (x ∷ xs) zero zero s = h
set-within u p h (x ∷ xs) zero (suc i) s = s
set-within u p h (x ∷ xs) (suc j) zero s = s
set-within u p h (x ∷ xs) (suc j) (suc i) s = set-within u p h xs j i s

part-within : (u p a b j : ℕ) (xs : List ℕ) → p ≤ u → ((i : ℕ) → get_or (stretch a b xs) i 0 ≤ u) → (i : ℕ) → get_or (stretch a b (set xs j p)) i 0 ≤ u
part-within u p a b j xs h s i =
    rw (stretch-get a b (set xs j p) i)
    (by-test (λ x. x ≤ u) (ltb i (suc b - a)) _ _ (λ l. set-within u p h xs j (a - 1 + i) (rw (stretch-get a b xs i, l) at (s i))) (λ l. zero-le))

-- ---- a rating that is not refused, with one of its numbers replaced

module _ (q : Asked) (table : List ℕ) (fan p : ℕ) (none : figures_refusal q table ≡ 0) (small : p ≤ unit_in q) where
  swapped-length : length_of (swapped fan p q) ≡ length_of q
  swapped-length = length-set q.survival (fan - 1) p

  pub swapped-units : (i : ℕ) → get_or (part_of (swapped fan p q)) i 0 ≤ unit_in q
  swapped-units = part-within (unit_in q) p q.a q.b (fan - 1) q.survival small (figures-ratable q table none).2.units

  swapped-refusal : figures_refusal (swapped fan p q) table ≡ figures_refusal q table
  unfolding figures_refusal
  swapped-refusal =
      first-same 11 _ _ _ _ refl (λ eleven.
      first-same 1 _ _ _ _ refl (λ one.
      first-same 2 _ _ _ _ (ap bad_size swapped-length) (λ two.
      first-same 3 _ _ _ _ (ap (bad_stretch q.a q.b) swapped-length) (λ three.
      first-same 20 _ _ _ _ refl (λ twenty.
      first-same 21 _ _ _ _ (ap (λ n. misplaced q.version n (board_count q) q.boards (boards_of q)) swapped-length) (λ placed.
      first-same 4 _ _ _ _ (ap (λ b. b || some_above (unit_in q) (switchboards_of q)) (above-none _ _ swapped-units ∙ sym (above-none _ _ (figures-ratable q table none).2.units))) (λ four.
      first-same 5 _ _ _ _ (ap (λ n. bad_weights q.rule n q.weights (weights_of q)) swapped-length) (λ five. refl))))))))

  pub swapped-accepted : figures_refusal (swapped fan p q) table ≡ 0
  swapped-accepted = swapped-refusal ∙ none

  pub swapped-third : ThirdOf (swapped fan p q) (low_of (swapped fan p q)) (high_of (swapped fan p q))
  unfolding figures_of
  swapped-third = figures-third (swapped fan p q) table _ _ (unless-none _ _ _ swapped-accepted)

  pub swapped-within : (up : Bool) → rounded_of up (swapped fan p q) ≤ unit_in q
  swapped-within =
      behind-within (unit_in q) (unit-some q.version) q.rule (part_of (swapped fan p q)) (read_of q) (boards_of q) (switchboards_of q) swapped-units
      (figures-boarded q table none).1.units

-- ---- the worth

signed : (u a b : ℕ) → a ≤ u → b ≤ u → Signed u (sub_ℕ a b)
signed u a b h k = record { from = rw (← (none-less u)) (less-le 0 u a b (omega arith)); to = rw (← (less_none u)) (less-le a b u 0 (omega arith)) }

-- an answer that is no refusal, and one refusal after another that is none
weighed : (r : ℕ) (l h : ℤ) (answer : Worth) → unless r Refused answer ≡ Ends l h → (r ≡ 0) × (answer ≡ Ends l h)
unfolding unless
weighed zero l h answer e = (refl, e)
weighed (suc r) l h answer e = let z : ◌≡◌ {A = ℕ} 0 1 = cc in absurd (omega arith)

pub after_first : (r next : ℕ) → after r next ≡ 0 → r ≡ 0
unfolding after
after_first zero next e = refl
after_first (suc r) next e = absurd (omega arith)

-- two numbers between their figures differ by no less than the lower and no more than the upper
pub between : (u n l₁ h₁ e₁ l₀ h₀ e₀ : ℕ) → 0 < n → Third u n l₁ h₁ e₁ → Third u n l₀ h₀ e₀ → l₁ ≤ u → h₁ ≤ u → l₀ ≤ u → h₀ ≤ u
    → Between u n (sub_ℕ l₁ h₀) (sub_ℕ h₁ l₀) e₁ e₀
between u n l₁ h₁ e₁ l₀ h₀ e₀ some works fails a b c d =
    let s = u ^ (n - 1) in
    record {
      above_lower = rw (less-times l₁ h₀ s) (less-le (l₁ * s) (h₀ * s) e₁ e₀ (omega (arith, works.above_low, fails.below_high)));
      below_upper = rw (less-times h₁ l₀ s) (less-le e₁ e₀ (h₁ * s) (l₀ * s) (omega (arith, works.below_high, fails.above_low)));
      width = rw (less-less h₁ l₀ l₁ h₀, ← (less_none (2 * n - 2))) (less-le (h₁ + h₀) (l₀ + l₁) (2 * n - 2) 0 (omega (arith, works.width, fails.width)));
      lower_signed = signed u l₁ h₀ a d;
      upper_signed = signed u h₁ l₀ b c;
    }

-- 17 not given
pub chosen-fan : (b : Bool) → ◌≡◌ {A = ℕ} (cond b 17 0) 0 → b ≡ false
chosen-fan true e = absurd (omega arith)
chosen-fan false e = refl

module _ (q : Asked) (table : List ℕ) (fan : ℕ) where
  pub figures-between : figures_refusal q table ≡ 0 → BetweenOf q fan (lower_of q fan) (upper_of q fan)
  figures-between none =
      let works = swapped-within q table fan (unit_in q) none (le_refl _) in
      let fails = swapped-within q table fan 0 none zero-le in
      let inside = in-stretch q.a q.b (length_of q) (figures-ratable q table none).0 in
      between (unit_in q) (parts_of q) _ _ _ _ _ _ (omega arith) (swapped-third q table fan (unit_in q) none (le_refl _)) (swapped-third q table fan 0 none zero-le)
      (works false) (works true) (fails false) (fails true)

  -- of every worth that is answered
  pub worth-between : (l h : ℤ) → worth_of q fan table ≡ Ends l h → BetweenOf q fan l h
  unfolding worth_of
  worth-between l h e =
      let v = weighed _ l h _ e in
      let lower-is : lower_of q fan ≡ l = cc v.1 in
      let upper_is : upper_of q fan ≡ h = cc v.1 in
      rw (← lower-is, ← upper_is) (figures-between (after_first _ _ v.0))

abbrev worth_by : (refusal : ℕ) (lower upper : ℤ) → Worth
worth_by refusal lower upper = unless refusal Refused (Ends lower upper)

-- the answer by its cases is the answer as one equation
pub weighs : (r : Worth) (refusal : ℕ) (lower upper : ℤ) → Weighs r refusal lower upper ↔ (r ≡ worth_by refusal lower upper)
unfolding unless
weighs r refusal lower upper = (to r, λ e. rw e (from refusal))
  where
    to : (r : Worth) → Weighs r refusal lower upper → r ≡ worth_by refusal lower upper
    to (Ends l h) v = none_is Refused _ refusal v.0 (ap₂ Ends v.1 v.2)
    to (Refused number) v = given_is Refused _ number refusal v

    from : (refusal : ℕ) → Weighs (worth_by refusal lower upper) refusal lower upper
    from zero = (refl, refl, refl)
    from (suc q) = (refl, omega arith)
