-- `ratings::foambeetle_counts` meets its contract: the answer's number is the refusal. Assumes nothing.
use mathlib.Core.Path.{◌≡◌, sym, ◌∙◌}
use Prim.Native.Nat.{ℕ}
use borrow.Author.Rules.{rules}
use Rattle.rules.specs.declared.Counting.{Counting}
use Rattle.rules.specs.declared.Counting.TheVariants.{Counted, Refused}
use Rattle.rules.specs.Answer.{Counts}
use Rattle.ratings.specs.Outcome.{counting_number}
use Rattle.ratings.proofs.foambeetle_counts.Goals as goal

number_is : (answer : Counting) {refusal : ℕ} → Counts answer refusal → counting_number answer ≡ refusal
number_is Counted h = sym h
number_is (Refused number) h = h.0

pub returns : goal.returns
returns c =
    let e = rw c.rule_of-rule.ensures at c.counts.ensures in
    record { number = c.number_of.ensures ∙ number_is c.counts.result e.answered; table = e.cleared; room = e.written }
