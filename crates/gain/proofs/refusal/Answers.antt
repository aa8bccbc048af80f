-- `refusal` gives the figures' own with the spare's number among those of 4. Assumes nothing.
use borrow.Author.Rules.{rules}
use mathlib.Core.Path.{◌≡◌, ap, ap₂, ◌∙◌}
use lib.Dec.{ltb}
use Rattle.rules.specs.Asked.{Asked, asked_with, unit_in}
use Rattle.gain.specs.Outcome.{with_spare}
use Rattle.gain.proofs.Refused.{with-spare}
use Rattle.gain.proofs.refusal.Goals as goal
use Rattle.gain.proofs.refusal.Goals.{Start}

abbrev asked : Start → Asked
asked c =
    asked_with c.args.question c.args.lists.now

pub returns : goal.returns
returns c =
    let q = asked ((goal.at.returns c).Start) in
    let unit : c.whole-all.result ≡ unit_in q = c.whole-all.ensures ∙ c.is_decimal.ensures in
    c.with_spare.ensures ∙ ap₂ with_spare (ap (λ u. ltb u c.args.p) unit) c.refusal-own.ensures ∙ with-spare (ltb (unit_in q) c.args.p) q c.args.table.now
