-- `refusals::rule_refusal` meets its contract: the tests in the code's order are those of the list of refusals. Assumes nothing.
use mathlib.Core.Path.{sym, ◌∙◌}
use native.Mathlib.Nat.{le_refl}
use borrow.Author.Tests.{not-false}
use Rattle.rules.specs.Below.{within}
use Rattle.rules.specs.Refusal.{most}
use Rattle.rules.proofs.EachKind.{within-true}
use Rattle.refusals.proofs.Laws.{rated-after}
use Rattle.refusals.proofs.rule_refusal.Goals as goal

pub returns-then-kind_out : goal.returns-then-kind_out
returns-then-kind_out c = rw (rated-after, ← c.kind_out.ensures, c.if-kind_out.true)

pub returns-then-size_out : goal.returns-then-size_out
returns-then-size_out c =
    rw (rated-after, ← c.kind_out.ensures, c.if-kind_out.false, ← c.size_out.ensures, c.if-size_out.true)

pub rated_refusal-requires : goal.rated_refusal-requires
rated_refusal-requires c =
    ((within-true 1 c.args.n most (not-false (within 1 c.args.n most) (sym c.size_out.ensures ∙ c.if-size_out.false))).1, le_refl _)

pub returns : goal.returns
returns c =
    rw (rated-after, ← c.kind_out.ensures, c.if-kind_out.false, ← c.size_out.ensures, c.if-size_out.false)
    c.rated_refusal.ensures
