-- The contract settles the outcome: the answer is the definitions', so any two outcomes that it allows are equal, the answer, the working table and
-- the room. Assumes nothing.
use mathlib.Core.Path.{◌≡◌, sym, ◌∙◌}
use mathlib.Core.List.{List}
use Prim.Native.Nat.{ℕ}
use Rattle.rules.specs.declared.Rule.{Rule}
use Rattle.rules.specs.declared.Counting.{Counting}
use Rattle.rules.specs.Answer.{counting_of}
use Rattle.rules.proofs.Answer.{counts}
use Rattle.counts.specs.Outcome.{Outcome}

module _ {rule : Rule} {n : ℕ} {weights table room : List ℕ} where
  counting-is : {answer : Counting} {tableExit roomExit : List ℕ} → Outcome rule n weights table room answer tableExit roomExit
      → answer ≡ counting_of rule n weights table room
  unfolding counting_of
  counting-is {answer} f = (counts answer _).0 f.answered

  pub one-outcome : {answer answer' : Counting} {tableExit tableExit' roomExit roomExit' : List ℕ}
      → Outcome rule n weights table room answer tableExit roomExit → Outcome rule n weights table room answer' tableExit' roomExit'
      → (answer ≡ answer') × (tableExit ≡ tableExit') × (roomExit ≡ roomExit')
  one-outcome f g = (counting-is f ∙ sym (counting-is g), f.cleared ∙ sym g.cleared, f.written ∙ sym g.written)
