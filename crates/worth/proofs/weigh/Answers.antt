-- `weigh` refuses, or answers what the two ratings of what is not refused come to. Assumes nothing.
use borrow.Author.Rules.{rules}
use mathlib.Core.Path.{◌≡◌, sym, ap, ◌∙◌}
use Rattle.rules.specs.Asked.{asked_with}
use Rattle.rules.specs.Worth.{worth_refusal}
use Rattle.rules.specs.Refusal.{refusal_in}
use Rattle.rules.proofs.Numbers.{number-some}
use Rattle.swaps.specs.Compared.{fan_refusal}
use Rattle.swaps.proofs.Compared.{compared-refused}
use Rattle.worth.proofs.Outcome.{answered-found}
use Rattle.worth.proofs.weigh.Goals as goal
use Rattle.worth.proofs.weigh.Goals.{After-fan_refusal}

refused : (c : After-fan_refusal) → let x = c.args in
    refusal_in c.fan_refusal.result
    ≡ worth_refusal (asked_with x.question x.lists.now) x.fan x.table.now
refused c =
    c.fan_refusal.ensures ∙ ap (λ own. fan_refusal own c.args.question.a c.args.fan c.args.question.b) c.refusal-own.ensures

pub returns-in-Err : goal.returns-in-Err
returns-in-Err c = record { outcome = compared-refused (c.number.ensures ∙ sym (ap refusal_in c.in-Err.is) ∙ refused ((goal.at.returns-in-Err c).After-fan_refusal)) (λ none. number-some _ (sym c.number.ensures ∙ none)) }

pub rate_sure-requires : goal.rate_sure-requires
rate_sure-requires c = sym (refused ((goal.at.rate_sure-requires c).After-fan_refusal)) ∙ ap refusal_in c.in_default.is

pub returns : goal.returns
returns c =
    answered-found (sym (refused ((goal.at.returns c).After-fan_refusal)) ∙ ap refusal_in c.in_default.is) c.rate_sure.ensures
