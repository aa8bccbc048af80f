-- `verdict::verdict_on` meets its contract: refusal 9 stands after those that every call shares, and a rule that is accepted is judged by its
-- row. Assumes nothing.
use mathlib.Core.Path.{◌≡◌, sym, ◌∙◌}
use mathlib.Core.Bool.{true, false, cond}
use mathlib.Core.List.{List}
use Prim.Native.Nat.{ℕ}
use borrow.Author.Tests.{leb-false}
use Rattle.rules.specs.declared.Rule.{Rule}
use Rattle.rules.specs.declared.Verdict.{Verdict}
use Rattle.rules.specs.declared.Verdict.TheVariants.{Refused}
use Rattle.rules.specs.State.{beside_of}
use Rattle.rules.specs.Refusal.{high_one}
use Rattle.rules.specs.Answer.{judged_of, verdict_of, unless}
use Rattle.rules.specs.Accepted.{Accepted}
use Rattle.refusals.specs.Shared.{rule_refusal}
use Rattle.rules.proofs.Numbers.{number-some}
use Rattle.rules.proofs.Unless.{unless-some, after_none, after-some}
use Rattle.refusals.proofs.Laws.{verdict-after, accepted}
use Rattle.verdict.specs.Outcome.{Judged}
use Rattle.verdict.proofs.Outcome.{judged}
use Rattle.verdict.proofs.verdict_on.Goals as goal
use Rattle.verdict.proofs.verdict_on.Goals.{In_default}

module _ (rule : Rule) (n : ℕ) (ws more : List ℕ) (w : ℕ) where
  refused : (r : ℕ) → r ≡ rule_refusal rule n ws more → (r ≡ 0 → ⊥) → Judged rule n ws more w (Refused r)
  unfolding verdict_of
  refused r e h =
      judged (sym (rw (verdict-after rule n ws more w, ← e, after-some r (cond (high_one n w) 9 0) h) (unless-some r Refused _ h)))

  high_is : rule_refusal rule n ws more ≡ 0 → high_one n w ≡ true → Judged rule n ws more w (Refused 9)
  unfolding verdict_of unless
  high_is z h = judged (rw (verdict-after rule n ws more w, after_none _ (cond (high_one n w) 9 0) z, h))

  accepted-is : {r : Verdict} → rule_refusal rule n ws more ≡ 0 → high_one n w ≡ false → r ≡ judged_of rule n ws more w → Judged rule n ws more w r
  unfolding verdict_of unless
  accepted-is z h e = judged (rw (verdict-after rule n ws more w, after_none _ (cond (high_one n w) 9 0) z, h) e)

pub returns-in-Err : goal.returns-in-Err
returns-in-Err c = refused _ _ _ _ _ _ (c.number.ensures ∙ c.in-Err.ensures) (λ none. number-some _ (sym c.number.ensures ∙ none))

-- what the first test leaves
none : (c : In_default) → let a = c.args in rule_refusal a.rule a.n a.weights.now a.more.now ≡ 0
none c = sym c.in_default.ensures

sound : (c : In_default) → let a = c.args in Accepted a.rule a.n (beside_of a.rule a.weights.now a.more.now)
sound c = accepted _ _ _ _ (none c)

pub high_one-requires : goal.high_one-requires
high_one-requires c = ((sound ((goal.at.high_one-requires c).In_default)).size_low, (sound ((goal.at.high_one-requires c).In_default)).size_high)

pub returns-then-high_one : goal.returns-then-high_one
returns-then-high_one c = high_is _ _ _ _ _ (none ((goal.at.returns-then-high_one c).In_default)) (sym c.high_one.ensures ∙ c.if-high_one.true)

pub judge-requires : goal.judge-requires
judge-requires c =
    (sound ((goal.at.judge-requires c).In_default), leb-false _ _ (sym c.high_one.ensures ∙ c.if-high_one.false))

pub returns : goal.returns
returns c =
    accepted-is _ _ _ _ _ (none ((goal.at.returns c).In_default)) (sym c.high_one.ensures ∙ c.if-high_one.false) c.judge.ensures
