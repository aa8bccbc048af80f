-- `rule::put_rule` meets its contract: each arm puts its kind's row. Assumes nothing.
use Prim.Native.Nat.{◌≤◌}
use Rattle.wording.specs.Rule.{rule_text}
use Rattle.wording.proofs.Rows.{other-kind}
use native.Mathlib.Omega.{arith}
use Rattle.wording.proofs.rule.put_rule.Goals as goal

pub returns-in-1 : goal.returns-in-1
unfolding rule_text
returns-in-1 c =
    rw c.in-1.is (rw c.in-1.is at c.put_alone.ensures)

pub returns-in-2 : goal.returns-in-2
unfolding rule_text
returns-in-2 c =
    rw c.in-2.is (rw c.in-2.is at c.put_alone-in-2.ensures)

pub returns-in-3 : goal.returns-in-3
unfolding rule_text
returns-in-3 c =
    rw c.in-3.is c.put_two.ensures

pub returns-in-4 : goal.returns-in-4
unfolding rule_text
returns-in-4 c =
    rw c.in-4.is (rw c.in-4.is at c.put_alone-in-4.ensures)

pub returns-in-5 : goal.returns-in-5
unfolding rule_text
returns-in-5 c =
    rw c.in-5.is (rw c.in-5.is at c.put_alone-in-5.ensures)

pub returns-in-6 : goal.returns-in-6
unfolding rule_text
returns-in-6 c =
    rw c.in-6.is c.put_two-in-6.ensures

pub returns-in-7 : goal.returns-in-7
unfolding rule_text
returns-in-7 c =
    rw c.in-7.is c.put_two-in-7.ensures

pub returns-in-8 : goal.returns-in-8
unfolding rule_text
returns-in-8 c =
    rw c.in-8.is c.put_two-in-8.ensures

pub returns-in_default : goal.returns-in_default
returns-in_default c =
    let far : 1 ≤ c.args.kind → 9 ≤ c.args.kind = λ h. omega arith in
    rw (other-kind c.args.kind c.args.first c.args.second far) c.put_numbers.ensures
