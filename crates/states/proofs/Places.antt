-- The place of a verdict: past 0 it moves by the fans before the stretch, and it is never far past the last component, since a window starts on the list.
-- Assumes nothing.
use mathlib.Core.Path.{◌≡◌, refl}
use mathlib.Core.Bool.{Bool, true, false}
use mathlib.Core.List.{List, [], ◌∷◌}
use Prim.Native.Nat.{ℕ, zero, suc, ◌+◌, ◌-◌, ◌≤◌}
use native.Mathlib.Omega.{arith}
use lib.Dec.{leb}
use lib.ListN.{get_or}
use Rattle.rules.specs.declared.Pair.{Pair}
use Rattle.rules.specs.declared.Rule.{Rule}
use Rattle.rules.specs.declared.Verdict.{Verdict}
use Rattle.rules.specs.declared.Verdict.TheVariants.{Works, Fails, Refused}
use Rattle.rules.specs.Below.{some, first}
use Rattle.rules.specs.State.{held_in, beside_of}
use Rattle.rules.specs.Pairs.{pairs_of, any_of, lacking_from, first_lacking}
use Rattle.rules.specs.Verdict.{first_window, first_near, place_of}
use Rattle.rules.specs.Refusal.{most}
use Rattle.rules.proofs.Tests.{by-test}
use Rattle.verdict.specs.Outcome.{Judged}
use Rattle.states.specs.States.{deck_place}
use Rattle.states.specs.Placed.{FewPlaces}

pub some-place : (a p : ℕ) → (p ≡ 0 → ⊥) → a - 1 + p ≡ deck_place a p
unfolding deck_place
some-place a zero h = absurd (h refl)
some-place a (suc p) h = refl

first-within : (p : ℕ → Bool) (k : ℕ) → first p k ≤ k
unfolding first
first-within p zero = omega arith
first-within p (suc k) =
    by-test (λ x. x ≤ suc k) (some p k) _ _ (λ _. omega (arith, first-within p k))
    (λ _. by-test (λ x. x ≤ suc k) (p k) _ _ (λ _. omega arith) (λ _. omega arith))

one-past : (p : ℕ → Bool) (k n : ℕ) → k ≤ suc n → suc (first p k) ≤ n + 2
one-past p k n h = omega (arith, first-within p k)

-- a table whose numbers are all at most m
unfoldable Bounded : ℕ → List ℕ → Type 0
Bounded m [] = Unit {0}
Bounded m (x ∷ xs) = (x ≤ m) × Bounded m xs

bounded_at : (m : ℕ) (xs : List ℕ) (i : ℕ) → Bounded m xs → get_or xs i 0 ≤ m
unfolding Bounded
bounded_at m [] i h = omega arith
bounded_at m (x ∷ xs) zero h = h.0
bounded_at m (x ∷ xs) (suc i) h = bounded_at m xs i h.1

window-within : (ring : Bool) (n width need w : ℕ) → first_window ring n width need w ≤ n + 2
unfolding first_window
window-within true n width need w = one-past (λ a. leb need (held_in n a w width)) n n (omega arith)
window-within false n width need w = one-past (λ a. leb need (held_in n a w width)) (suc n - width) n (omega arith)

near_within : (n r w : ℕ) → first_near n r w ≤ n + 2
unfolding first_near
near_within n r w = by-test (λ x. x ≤ n + 2) (leb n r) 1 _ (λ _. omega arith) (λ _. window-within false n r 2 w)

lacking-within : (ps : List Pair) (n w : ℕ) → first_lacking ps n w ≤ n + 2
unfolding first_lacking
lacking-within ps n w = one-past (λ a. any_of (lacking_from n w a) ps) n n (omega arith)

place-within : (rule : Rule) (n : ℕ) (beside : List ℕ) (w : ℕ) → place_of rule n beside w ≤ n + 2
unfolding place_of Bounded
place-within rule n beside w =
    let none : 0 ≤ n + 2 = omega arith in
    bounded_at (n + 2)
    (0
    ∷ 0
    ∷ 0
    ∷ 0
    ∷ first_window false n rule.first rule.first w
    ∷ first_window true n rule.first rule.first w
    ∷ first_near n rule.second w
    ∷ first_window true n rule.second 2 w
    ∷ first_lacking (pairs_of rule.first rule.second beside) n w
    ∷ [])
    rule.kind (
      none,
      (
        none,
        (
          none,
          (
            none,
            (
              window-within false n rule.first rule.first w,
              (
                window-within true n rule.first rule.first w,
                (
                  near_within n rule.second w,
                  (
                    window-within true n rule.second 2 w,
                    (lacking-within (pairs_of rule.first rule.second beside) n w, tt),
                  ),
                ),
              ),
            ),
          ),
        ),
      ),
    )

pub few-places : (rule : Rule) (n : ℕ) (weights more : List ℕ) (state : ℕ) (r : Verdict) → Judged rule n weights more state r → n ≤ most → FewPlaces r
few-places rule n weights more state Works h l = tt
few-places rule n weights more state (Fails p) h l =
    omega (arith, h.answer.2, place-within rule n (beside_of rule weights more) state)
few-places rule n weights more state (Refused r) h l = tt
