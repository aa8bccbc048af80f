-- What the refusals 1, 2, 5 and 6 share: a call's refusal is theirs followed by its own, each kind's row of the column "range", and a rule that none of
-- them meets is `Accepted`. By cases on the tests; the rows are taken at a number. Assumes nothing.
use mathlib.Core.Path.{◌≡◌, refl, subst}
use mathlib.Core.Bool.{Bool, true, false, cond, not}
use mathlib.Core.Logic.{◌⊎◌, inl, inr}
use mathlib.Core.List.{List, [], ◌∷◌}
use Prim.Native.Nat.{ℕ, suc, ◌≤◌, ◌<◌}
use native.Mathlib.Omega.{arith}
use native.Mathlib.Nat.{eq-or-lt_of_le, le_antisymm}
use lib.ListN.{length}
use borrow.Author.Tests.{eqb-true}
use Rattle.rules.specs.declared.Rule.{Rule}
use Rattle.rules.specs.Below.{total}
use Rattle.rules.specs.State.{rule_of, beside_of}
use Rattle.rules.specs.Refusal.{after, range_one, bad_kind, not_counted, bad_size, bad_weights, ranged, in_range, first_of, high_one, short_table, short_room, verdict_refusal, count_refusal}
use Rattle.rules.specs.Accepted.{Accepted}
use Rattle.rules.proofs.EachKind.{range-kind}
use Rattle.rules.proofs.Accepted.{none_first, rule-accepted}
use Rattle.rules.proofs.Unread.{beside-range}
use Rattle.refusals.specs.Shared.{rated_refusal, rule_refusal}

-- ---- one refusal after another

rule-first : (a b c d : Bool) (rest : List (ℕ × Bool))
    → first_of ((1, a) ∷ (2, b) ∷ (5, c) ∷ (6, d) ∷ rest)
    ≡ after (first_of ((1, a) ∷ (2, b) ∷ (5, c) ∷ (6, d) ∷ [])) (first_of rest)
unfolding first_of after
rule-first true b c d rest = refl
rule-first false true c d rest = refl
rule-first false false true d rest = refl
rule-first false false false true rest = refl
rule-first false false false false rest = refl

-- "The verdict checks 1, 2, 5, 6, 9": 9 after the others
pub verdict-after : (rule : Rule) (n : ℕ) (weights more : List ℕ) (w : ℕ)
    → verdict_refusal rule n weights more w ≡ after (rule_refusal rule n weights more) (cond (high_one n w) 9 0)
unfolding verdict_refusal rule_refusal first_of
verdict-after rule n weights more w =
    rule-first (bad_kind rule) (bad_size n) (bad_weights rule n weights weights) (not (in_range rule n (beside_of rule weights more))) ((9, high_one n w) ∷ [])

-- "the count table 1, 2, 5, 6, 7, 8", 15 right after 1, which kind 8 never meets: 7 and 8 after the others, which read no further pairs
pub count-after : (rule : Rule) (n : ℕ) (weights table room : List ℕ)
    → count_refusal rule n weights table room
    ≡ cond (not_counted rule) 15 (after (rule_refusal rule n weights []) (cond (short_table table) 7 (cond (short_room n room) 8 0)))
unfolding count_refusal rule_refusal first_of
count-after rule n weights table room = go (not_counted rule) refl
  where
    go : (b : Bool) → not_counted rule ≡ b
        → count_refusal rule n weights table room
        ≡ cond b 15 (after (rule_refusal rule n weights []) (cond (short_table table) 7 (cond (short_room n room) 8 0)))
    go true e = rw (eqb-true rule.kind 8 e)
    go false e =
        rw e
        (rule-first (bad_kind rule) (bad_size n) (bad_weights rule n weights weights) (not (in_range rule n weights))
        ((7, short_table table) ∷ (8, short_room n room) ∷ []))

-- 5 and 6 after 1 and 2
pub rated-after : (rule : Rule) (n : ℕ) (weights more : List ℕ)
    → rule_refusal rule n weights more
    ≡ cond (bad_kind rule) 1 (cond (bad_size n) 2 (rated_refusal rule n (length weights) n (total weights) more))
unfolding rule_refusal rated_refusal first_of
rated-after rule n weights more = rw (beside-range rule n weights more)

-- no refusal, so accepted
pub accepted : (rule : Rule) (n : ℕ) (weights more : List ℕ) → rule_refusal rule n weights more ≡ 0 → Accepted rule n (beside_of rule weights more)
unfolding rule_refusal
accepted rule n weights more e =
    let a = none_first 0 _ _ e in
    let b = none_first 1 _ _ a.1 in
    let c = none_first 4 _ _ b.1 in
    rule-accepted rule n n weights weights more a.0 b.0 c.0 (λ l. l) (none_first 5 _ _ c.1).0

-- ---- a row of the column "range", at its kinds

one_of_two : (P : ℕ → Type 0) (a k : ℕ) → P a → P (suc a) → a ≤ k → k ≤ suc a → P k
one_of_two P a k here next low high = go (eq-or-lt_of_le low)
  where
    go : (a ≡ k) ⊎ (a < k) → P k
    go (inl e) = subst P e here
    go (inr l) = subst P (le_antisymm l high) next

module _ (rule : Rule) (n t : ℕ) (more : List ℕ) where
  -- the rule's numbers under another kind
  abbrev at : ℕ → Bool
  at kind = ranged (rule_of kind rule.first rule.second) n t more

  pub range-one : (rule.kind ≡ 1) ⊎ ((4 ≤ rule.kind) × (rule.kind ≤ 5)) → ranged rule n t more ≡ range_one rule.first n rule.second
  unfolding ranged
  range-one (inl e) = rw e
  range-one (inr h) = one_of_two (λ k. at k ≡ range_one rule.first n rule.second) 4 rule.kind refl refl h.0 h.1

  -- a kind that has no row
  pub range_none : (1 ≤ rule.kind → 8 < rule.kind) → ranged rule n t more ≡ false
  range_none h = go (ranged rule n t more) refl
    where
      go : (b : Bool) → ranged rule n t more ≡ b → ranged rule n t more ≡ false
      go true e =
          let k = range-kind rule n t more e in
          let l = h k.0 in
          absurd (omega arith)
      go false e = e
