-- `listed::numbers` meets its contract: after j turns the first j numbers stand there. Assumes nothing.
use mathlib.Core.Path.{◌≡◌, refl, ◌∙◌}
use Prim.Native.Nat.{◌*◌}
use native.Mathlib.Omega.{arith}
use lib.Seq.{take_all}
use Rattle.rules.specs.File.{per_system}
use Rattle.grammar.specs.Text.{numbers_of}
use Rattle.typed_lists.proofs.Storing.{stored_next}
use Rattle.typed_lists.proofs.MoreSystems.{typed_at_lem, count-fives}
use Rattle.typed_lists.proofs.listed.numbers.Goals as goal

pub loop-j-init : goal.loop-j-init
loop-j-init c = λ l h. record { long = refl; few = omega arith; counted = refl; stands = refl }

pub overflow_mul-j-end : goal.overflow_mul-j-end
overflow_mul-j-end c = omega (arith, c.requires)

pub number_at-requires : goal.number_at-requires
number_at-requires c =
    omega (arith, c.requires, c.loop-j-test.true)

pub loop-j-preserved : goal.loop-j-preserved
loop-j-preserved c =
    λ l h.
    stored_next (numbers_of c.args.fans l) (c.loop-j.invariant l h) _
    (omega (arith, c.requires, c.loop-j-test.true))
    (omega (arith, count-fives h c.args.fans, c.loop-j-test.true))
    (c.number_at.ensures ∙ typed_at_lem h c.args.fans _ c.loop-j-test.true)

pub returns : goal.returns
returns c = λ l h.
    let e : c.loop-j.j ≡ c.args.systems.count * per_system = omega (arith, c.loop-j-test.false) in
    let all = take_all (c.args.systems.count * per_system) (numbers_of c.args.fans l) (omega (arith, count-fives h c.args.fans)) in
    rw all at (rw e at (c.loop-j.invariant l h))
