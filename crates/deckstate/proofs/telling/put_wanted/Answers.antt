-- `telling::put_wanted` meets its contract, by what was wanted. Assumes nothing.
use mathlib.Core.Path.{◌≡◌}
use native.Mathlib.Omega.{arith}
use borrow.Author.Tests.{eq-eqb, ne_eqb}
use Rattle.text.proofs.Adding.{put-added}
use Rattle.deckstate.proofs.telling.put_wanted.Goals as goal

pub returns-in-2 : goal.returns-in-2
returns-in-2 c =
    rw (eq-eqb _ 2 c.in-2.is) c.put_most.ensures

pub returns-in-3 : goal.returns-in-3
returns-in-3 c =
    let unlike : c.args.wanted ≡ 2 → ⊥ = λ e. omega (arith, e, c.in-3.is) in
    rw (ne_eqb _ 2 unlike, eq-eqb _ 3 c.in-3.is) (put-added (omega (arith, c.requires)) c.put.ensures)

pub returns-in-4 : goal.returns-in-4
returns-in-4 c =
    let two : c.args.wanted ≡ 2 → ⊥ = λ e. omega (arith, e, c.in-4.is) in
    let three : c.args.wanted ≡ 3 → ⊥ = λ e. omega (arith, e, c.in-4.is) in
    rw (ne_eqb _ 2 two, ne_eqb _ 3 three, eq-eqb _ 4 c.in-4.is) c.put_most-in-4.ensures

pub returns-in_default : goal.returns-in_default
returns-in_default c =
    rw (ne_eqb _ 2 c.in_default.in_default-own.rest.0.0.1, ne_eqb _ 3 c.in_default.in_default-own.rest.0.1, ne_eqb _ 4 c.in_default.in_default-own.rest.1) c.put_most-in_default.ensures
