-- `refusals::rated_refusal` meets its contract: the tests in the code's order are those of the list of refusals, and for kinds other than 2
-- the total does not matter. Assumes nothing.
use mathlib.Core.Path.{◌≡◌, sym, ◌∙◌}
use mathlib.Core.Bool.{Bool, true, false, cond}
use mathlib.Core.List.{List}
use Prim.Native.Nat.{ℕ, ◌≤◌, ◌<◌}
use native.Mathlib.Omega.{arith}
use borrow.Author.Tests.{eq-eqb, ne_eqb, le-ltb, lt-ltb, not-true, not-false}
use Rattle.rules.specs.declared.Rule.{Rule}
use Rattle.rules.specs.Refusal.{heaviest, weights_out, ranged, first_of}
use Rattle.rules.proofs.Unread.{unread-total}
use Rattle.refusals.specs.Shared.{rated_refusal}
use Rattle.refusals.proofs.rated_refusal.Goals as goal

module _ (rule : Rule) (whole listed n t : ℕ) (more : List ℕ) where
  other : (fits : Bool) → ranged rule n 0 more ≡ fits → (rule.kind ≡ 2 → ⊥) → rated_refusal rule whole listed n t more ≡ cond fits 0 6
  unfolding rated_refusal first_of weights_out
  other true f h = rw (ne_eqb rule.kind 2 h, unread-total rule n t 0 more h, f)
  other false f h = rw (ne_eqb rule.kind 2 h, unread-total rule n t 0 more h, f)

  module _ (two : rule.kind ≡ 2) where
    not_listed : (listed ≡ whole → ⊥) → rated_refusal rule whole listed n t more ≡ 5
    unfolding rated_refusal first_of weights_out
    not_listed h = rw (eq-eqb rule.kind 2 two, ne_eqb listed whole h)

    heavy : listed ≡ whole → heaviest < t → rated_refusal rule whole listed n t more ≡ 5
    unfolding rated_refusal first_of weights_out
    heavy e l = rw (eq-eqb rule.kind 2 two, eq-eqb listed whole e, lt-ltb heaviest t l)

    weighed : (fits : Bool) → ranged rule n t more ≡ fits → listed ≡ whole → t ≤ heaviest → rated_refusal rule whole listed n t more ≡ cond fits 0 6
    unfolding rated_refusal first_of weights_out
    weighed true f e l = rw (eq-eqb rule.kind 2 two, eq-eqb listed whole e, le-ltb heaviest t l, f)
    weighed false f e l = rw (eq-eqb rule.kind 2 two, eq-eqb listed whole e, le-ltb heaviest t l, f)

pub returns-then-range_out : goal.returns-then-range_out
returns-then-range_out c = sym (other _ _ _ _ _ _ false (not-true _ (sym c.range_out.ensures ∙ c.if-range_out.true)) c.if-rule-ne-WEIGHT.true)

pub returns-then-rule-ne-WEIGHT : goal.returns-then-rule-ne-WEIGHT
returns-then-rule-ne-WEIGHT c = sym (other _ _ _ _ _ _ true (not-false _ (sym c.range_out.ensures ∙ c.if-range_out.false)) c.if-rule-ne-WEIGHT.true)

pub returns-then-listed-whole : goal.returns-then-listed-whole
returns-then-listed-whole c = sym (not_listed _ _ _ _ _ _ c.if-rule-ne-WEIGHT.false c.if-listed-whole.true)

pub returns-then-total-gt-WEIGHT : goal.returns-then-total-gt-WEIGHT
returns-then-total-gt-WEIGHT c = sym (heavy _ _ _ _ _ _ c.if-rule-ne-WEIGHT.false c.if-listed-whole.false (omega arith))

pub returns-then-range_out-2 : goal.returns-then-range_out-2
returns-then-range_out-2 c =
    rw (← c.total_of-total.ensures)
    (sym
    (weighed _ _ _ _ _ _ c.if-rule-ne-WEIGHT.false false
    (not-true _ (sym c.range_out-2.ensures ∙ c.if-range_out-2.true))
    c.if-listed-whole.false
    c.if-total-gt-WEIGHT.false))

pub returns : goal.returns
returns c =
    rw (← c.total_of-total.ensures)
    (sym
    (weighed _ _ _ _ _ _ c.if-rule-ne-WEIGHT.false true
    (not-false _ (sym c.range_out-2.ensures ∙ c.if-range_out-2.false))
    c.if-listed-whole.false
    c.if-total-gt-WEIGHT.false))
