-- `why::range_why` meets its contract: each arm has the cause of its kind, and what is left are the kinds of failed ones in a row. Assumes nothing.
use native.Mathlib.Omega.{arith}
use borrow.Author.Tests.{ne_eqb}
use Rattle.advice.specs.System.{range_why}
use Rattle.advice.proofs.why.range_why.Goals as goal

pub returns-in-1 : goal.returns-in-1
unfolding range_why
returns-in-1 c = rw c.in-1.is c.one_why.ensures

pub returns-in-2 : goal.returns-in-2
unfolding range_why
returns-in-2 c = rw c.in-2.is c.weight_why.ensures

pub returns-in-3 : goal.returns-in-3
unfolding range_why
returns-in-3 c = rw c.in-3.is c.because.ensures

pub returns-in-6 : goal.returns-in-6
unfolding range_why
returns-in-6 c = rw c.in-6.is c.near_why.ensures

pub returns-in-7 : goal.returns-in-7
unfolding range_why
returns-in-7 c = rw c.in-7.is c.ring_why.ensures

pub returns-in-8 : goal.returns-in-8
unfolding range_why
returns-in-8 c = rw c.in-8.is c.because-in-8.ensures

pub returns-in_default : goal.returns-in_default
unfolding range_why
returns-in_default c =
    rw (ne_eqb c.args.rule.kind 1 (λ e. omega arith), ne_eqb c.args.rule.kind 2 (λ e. omega arith), ne_eqb c.args.rule.kind 3 (λ e. omega arith), ne_eqb c.args.rule.kind 6 (λ e. omega arith), ne_eqb c.args.rule.kind 7 (λ e. omega arith), ne_eqb c.args.rule.kind 8 (λ e. omega arith))
    c.one_why-in_default.ensures
