-- `why::near_why` takes the tests of the definition of that name; the first is that the window has room for as many as fail. Assumes nothing.
use mathlib.Core.Path.{sym, ◌∙◌}
use mathlib.Core.List.{[]}
use Prim.Native.Nat.{◌+◌, ◌-◌}
use native.Mathlib.Omega.{arith}
use borrow.Author.Tests.{not-true, not-false}
use Rattle.rules.specs.Below.{within}
use Rattle.rules.specs.Refusal.{ranged}
use Rattle.rules.proofs.EachKind.{within-true}
use Rattle.advice.specs.System.{lacking_rule}
use Rattle.advice.proofs.why.near_why.Goals as goal

pub returns-then-outside : goal.returns-then-outside
returns-then-outside c =
    rw (not-true (within 1 c.args.first c.args.second) (sym c.outside.ensures ∙ c.if-outside.true)) c.because.ensures

pub overflow_sub-needed : goal.overflow_sub-needed
overflow_sub-needed c =
    omega (arith, within-true 1 c.args.first c.args.second (not-false (within 1 c.args.first c.args.second) (sym c.outside.ensures ∙ c.if-outside.false)))

pub overflow_add-needed : goal.overflow_add-needed
overflow_add-needed c =
    omega (arith, within-true 1 c.args.first c.args.second (not-false (within 1 c.args.first c.args.second) (sym c.outside.ensures ∙ c.if-outside.false)))

pub returns-then-range_out : goal.returns-then-range_out
returns-then-range_out c =
    rw (
      not-false (within 1 c.args.first c.args.second) (sym c.outside.ensures ∙ c.if-outside.false),
      not-true (ranged (lacking_rule (c.args.second - c.args.first + 1) c.args.second) c.args.n 0 []) (sym c.range_out.ensures ∙ c.if-range_out.true),
    ) c.because-then-range_out.ensures

pub returns : goal.returns
returns c =
    rw (
      not-false (within 1 c.args.first c.args.second) (sym c.outside.ensures ∙ c.if-outside.false),
      not-false (ranged (lacking_rule (c.args.second - c.args.first + 1) c.args.second) c.args.n 0 []) (sym c.range_out.ensures ∙ c.if-range_out.false),
    ) c.because-2.ensures
