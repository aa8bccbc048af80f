-- What the verdict's call answers.
use Rattle.std.specs.Prelude.{List, ℕ}
use Rattle.rules.specs.declared.Rule.{Rule}
use Rattle.rules.specs.declared.Verdict.{Verdict}
use Rattle.rules.specs.State.{beside_of}
use Rattle.rules.specs.Verdict.{fails, place_of}
use Rattle.rules.specs.Refusal.{verdict_refusal}
use Rattle.rules.specs.Answer.{Judges}

pub record Judged (rule : Rule) (n : ℕ) (weights more : List ℕ) (state : ℕ) (r : Verdict) : Type 0 where
  pub answer : Judges r (verdict_refusal rule n weights more state) (fails rule n (beside_of rule weights more) state) (place_of rule n (beside_of rule weights more) state)
