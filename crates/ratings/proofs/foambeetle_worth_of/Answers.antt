-- `ratings::foambeetle_worth_of` meets its contract: the worth is told. Assumes nothing.
use mathlib.Core.Path.{ap, ◌∙◌}
use borrow.Author.Rules.{rules}
use Rattle.worth.proofs.Outcome.{worth-is}
use Rattle.loading.specs.Outcome.{number_of, ends_after}
use Rattle.ratings.proofs.foambeetle_worth_of.Goals as goal

pub returns : goal.returns
returns c =
    let e = rw c.rule_of-rule.ensures at c.worth-worth.ensures in
    record { number = c.tell.ensures.number ∙ ap number_of (worth-is e); table = e.outcome.table; ends = c.tell.ensures.ends ∙ ap (λ w. ends_after w c.args.ends.now) (worth-is e) }
