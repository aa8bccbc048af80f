-- `numbers_of` has the whole numbers of the floats that it passed in their places. Assumes nothing.
use Prim.Native.Nat.{◌+◌}
use mathlib.Core.Path.{◌≡◌, refl, sym, ap, ◌∙◌}
use mathlib.Core.Bool.{true}
use native.Mathlib.Omega.{arith}
use borrow.Author.Count.{below_more}
use lib.ListN.{get_or, set, length-set}
use lib.Ieee.{nan}
use lib.Seq.{get_or-set_same, get_or-set_other}
use Rattle.rules.specs.Doubles.{is_chance, whole_of}
use Rattle.rules.proofs.Grid.{small}
use Rattle.rules.proofs.Doubles.{each-chance}
use Rattle.doubles.specs.Floats.{bits, bits_of}
use Rattle.doubles.proofs.Lists.{bits-get}
use Rattle.planning.proofs.numbers_of.Goals as goal
use Rattle.planning.proofs.numbers_of.Goals.{In-loop-i}

-- the float at hand is a chance
chance : (c : In-loop-i)
    → is_chance (bits (get_or c.args.floats.now c.loop-i.i nan)) ≡ true
chance c =
    rw (← (bits-get c.args.floats.now c.loop-i.i c.loop-i-test.true)) (each-chance (bits_of c.args.floats.now) c.requires.chances c.loop-i.i)

pub loop-i-init : goal.loop-i-init
loop-i-init c = (refl, λ k l. absurd (omega arith))

pub whole-requires : goal.whole-requires
whole-requires c = chance ((goal.at.whole-requires c).In-loop-i)

pub overflow_cast-numbers : goal.overflow_cast-numbers
overflow_cast-numbers c =
    omega (arith, c.whole.ensures, small (bits (get_or c.args.floats.now c.loop-i.i nan)) c.args.up (chance ((goal.at.overflow_cast-numbers c).In-loop-i)))

pub loop-i-preserved : goal.loop-i-preserved
loop-i-preserved c = (
  length-set c.loop-i.numbers (c.args.from + c.loop-i.i) c.whole.result ∙ c.loop-i.invariant.0,
  below_more (λ k. get_or (set c.loop-i.numbers (c.args.from + c.loop-i.i) c.whole.result) (c.args.from + k) 0 ≡ whole_of c.args.up (get_or (bits_of c.args.floats.now) k 0)) c.loop-i.i
      (λ k m. get_or-set_other c.loop-i.numbers (c.args.from + c.loop-i.i) (c.args.from + k) c.whole.result 0 (λ q. omega arith) ∙ c.loop-i.invariant.1 k m)
      (get_or-set_same c.loop-i.numbers (c.args.from + c.loop-i.i) c.whole.result 0 (omega arith)
      ∙ c.whole.ensures ∙ ap (whole_of c.args.up) (sym (bits-get c.args.floats.now c.loop-i.i c.loop-i-test.true))),
)

pub returns : goal.returns
returns c = record { long = c.loop-i.invariant.0; filled = λ k l. c.loop-i.invariant.1 k (omega arith) }
