-- `some_off` has found none among the floats that it passed. Assumes nothing.
use mathlib.Core.Path.{◌≡◌, refl, sym, ap, ◌∙◌}
use mathlib.Core.Bool.{not}
use native.Mathlib.Omega.{arith}
use native.Mathlib.Numerals.{add-one}
use lib.ListN.{length, length-map}
use Rattle.rules.specs.Below.{some}
use Rattle.rules.specs.Doubles.{on_grid, some_off}
use Rattle.rules.proofs.Windows.{some-found}
use Rattle.rules.proofs.Doubles.{each-chance}
use Rattle.doubles.specs.Floats.{bits, bits_of}
use Rattle.doubles.proofs.Lists.{bits-get}
use Rattle.planning.proofs.some_off.Goals as goal

pub loop-float-init : goal.loop-float-init
unfolding some
loop-float-init c = refl

pub on_grid-requires : goal.on_grid-requires
on_grid-requires c =
    rw (← (bits-get c.args.floats.now c.loop-float.float-index c.loop-float-test.true)) (each-chance (bits_of c.args.floats.now) c.requires c.loop-float.float-index)

pub returns-then-not-on_grid : goal.returns-then-not-on_grid
unfolding some_off
returns-then-not-on_grid c =
    sym (some-found _ _ c.loop-float.float-index (rw (length-map c.args.floats.now bits) c.loop-float-test.true) (ap (λ b. not (on_grid b)) (bits-get c.args.floats.now c.loop-float.float-index c.loop-float-test.true) ∙ ap not (sym c.on_grid.ensures ∙ c.if-not-on_grid.true)))

pub loop-float-preserved : goal.loop-float-preserved
unfolding some
loop-float-preserved c =
    rw (add-one, c.loop-float.invariant)
    (ap (λ b. not (on_grid b)) (bits-get c.args.floats.now c.loop-float.float-index c.loop-float-test.true) ∙ ap not (sym c.on_grid.ensures ∙ c.if-not-on_grid.false))

pub returns : goal.returns
unfolding some_off
returns c =
    let e : c.loop-float.float-index ≡ length c.args.floats.now = omega arith in
    sym (rw (length-map c.args.floats.now bits) (rw e at c.loop-float.invariant))
