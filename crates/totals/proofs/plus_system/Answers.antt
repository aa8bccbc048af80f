-- `plus_system` meets its contract: a kind from 1 to 8 has its place in the array. Assumes nothing.
use mathlib.Core.Path.{sym, ◌∙◌}
use native.Mathlib.Omega.{arith}
use borrow.Author.Tests.{not-true, not-false}
use Rattle.rules.specs.Below.{within}
use Rattle.rules.proofs.EachKind.{within-true}
use Rattle.rules.specs.Refusal.{last_kind}
use Rattle.totals.specs.Plus.{system_plus}
use borrow.Author.Rules.{rules}
use Rattle.totals.proofs.plus_system.Goals as goal

pub returns-then-outside : goal.returns-then-outside
unfolding system_plus
returns-then-outside c = rw (not-true (within 1 c.args.kind last_kind) (sym c.outside.ensures ∙ c.if-outside.true))

pub overflow_sub-k : goal.overflow_sub-k
overflow_sub-k c = omega (arith, within-true 1 c.args.kind last_kind (not-false _ (sym c.outside.ensures ∙ c.if-outside.false)))

pub offset_bounds-kinds-k : goal.offset_bounds-kinds-k
offset_bounds-kinds-k c = omega (arith, within-true 1 c.args.kind last_kind (not-false _ (sym c.outside.ensures ∙ c.if-outside.false)))

pub bounds-kinds-k : goal.bounds-kinds-k
bounds-kinds-k c = omega (arith, within-true 1 c.args.kind last_kind (not-false _ (sym c.outside.ensures ∙ c.if-outside.false)))

pub plus-requires : goal.plus-requires
plus-requires c = record { room = c.requires.room.kinds _; unit = c.requires.unit; fair = c.requires.fair }

pub offset_bounds-kinds-k-2 : goal.offset_bounds-kinds-k-2
offset_bounds-kinds-k-2 c =
    omega (arith, within-true 1 c.args.kind last_kind (not-false _ (sym c.outside.ensures ∙ c.if-outside.false)))

pub bounds-kinds-k-2 : goal.bounds-kinds-k-2
bounds-kinds-k-2 c =
    omega (arith, within-true 1 c.args.kind last_kind (not-false _ (sym c.outside.ensures ∙ c.if-outside.false)))

pub returns : goal.returns
unfolding system_plus
returns c =
    rw (not-false (within 1 c.args.kind last_kind) (sym c.outside.ensures ∙ c.if-outside.false), c.plus.ensures)
