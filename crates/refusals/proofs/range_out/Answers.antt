-- `refusals::range_out` meets its contract: each arm is the row of its kinds, and a kind of no arm has no row. Assumes nothing.
use mathlib.Core.Path.{sym, ap, ◌∙◌}
use mathlib.Core.Bool.{not}
use mathlib.Core.Logic.{inl, inr}
use native.Mathlib.Omega.{arith}
use Rattle.rules.specs.Refusal.{ranged}
use Rattle.refusals.proofs.Laws.{range-one, range_none}
use Rattle.refusals.proofs.range_out.Goals as goal
use Rattle.refusals.proofs.range_out.Goals.{in-1-1, in_default+else-asked-lt1+then-asked-lt6}

pub returns-in-2 : goal.returns-in-2
unfolding ranged
returns-in-2 c = rw c.in-2.is c.one_out.ensures

pub returns-in-3 : goal.returns-in-3
unfolding ranged
returns-in-3 c = rw c.in-3.is c.outside.ensures

pub returns-in-6 : goal.returns-in-6
unfolding ranged
returns-in-6 c = rw c.in-6.is c.two_out.ensures

pub returns-in-7 : goal.returns-in-7
unfolding ranged
returns-in-7 c = rw c.in-7.is c.two_out-in-7.ensures

pub returns-in-8 : goal.returns-in-8
unfolding ranged
returns-in-8 c = rw c.in-8.is c.pairs_out.ensures

pub returns-in_default : goal.returns-in_default
returns-in_default c = ap not (sym (range_none _ _ _ _ (λ l. omega arith)))

pub returns-in_default-2 : goal.returns-in_default-2
returns-in_default-2 c = ap not (sym (range_none _ _ _ _ (λ l. omega arith)))

pub returns-in-1 : goal.returns-in-1
returns-in-1 c =
    c.one_out-in-1.ensures ∙ ap not (sym (range-one _ _ _ _ (elim c.in-1-1.branch [ in-1-1 w ↦ inl (cc) | in_default+else-asked-lt1+then-asked-lt6 w ↦ inr (omega arith, omega arith) ])))
