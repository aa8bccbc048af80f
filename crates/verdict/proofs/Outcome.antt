-- The verdict's contract settles its answer: it is the definitions' verdict, so any two outcomes that the contract allows are equal. Assumes nothing.
use mathlib.Core.Path.{◌≡◌, sym, ◌∙◌}
use mathlib.Core.List.{List}
use Prim.Native.Nat.{ℕ}
use Rattle.rules.specs.declared.Rule.{Rule}
use Rattle.rules.specs.declared.Verdict.{Verdict}
use Rattle.rules.specs.Answer.{verdict_of, judged_of}
use Rattle.rules.proofs.Answer.{judges}
use Rattle.verdict.specs.Outcome.{Judged}

module _ {rule : Rule} {n : ℕ} {weights more : List ℕ} {state : ℕ} where
  pub judged : {r : Verdict} → r ≡ verdict_of rule n weights more state → Judged rule n weights more state r
  unfolding verdict_of judged_of
  judged {r} e = record { answer = (judges r _ _ _).1 e }

  pub verdict-is : {r : Verdict} → Judged rule n weights more state r → r ≡ verdict_of rule n weights more state
  unfolding verdict_of judged_of
  verdict-is {r} h = (judges r _ _ _).0 h.answer

  pub same-verdict : {r s : Verdict} → Judged rule n weights more state r → Judged rule n weights more state s → r ≡ s
  same-verdict p q = verdict-is p ∙ sym (verdict-is q)
