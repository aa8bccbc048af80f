-- `around` adds up, over the failed ones around the end, the ways to lay them and the others. Assumes nothing.
use mathlib.Core.Path.{◌≡◌, refl}
use Prim.Native.Nat.{suc, min}
use native.Mathlib.Omega.{arith}
use Rattle.rules.specs.Below.{sum_below}
use Rattle.bins.specs.Bins.{term}
use Rattle.bins.proofs.Filling.{sum_step}
use Rattle.bins.proofs.around.Goals as goal

pub loop-m-init : goal.loop-m-init
unfolding sum_below
loop-m-init c = refl

pub part-sum-requires : goal.part-sum-requires
part-sum-requires c = record {
  most = omega arith;
  row = omega arith;
  long = c.requires.long;
  fits = omega (arith, (sum_step (term c.args.top c.args.table.now) _ _ c.requires.fits (omega arith) c.loop-m.invariant).1);
}

pub overflow_add-sum : goal.overflow_add-sum
overflow_add-sum c =
    omega (arith, c.part-sum.ensures, (sum_step (term c.args.top c.args.table.now) _ _ c.requires.fits (omega arith) c.loop-m.invariant).1)

pub loop-m-preserved : goal.loop-m-preserved
loop-m-preserved c =
    omega (arith, c.part-sum.ensures, (sum_step (term c.args.top c.args.table.now) _ _ c.requires.fits (omega arith) c.loop-m.invariant).0)

pub returns : goal.returns
returns c =
    let e : c.loop-m.m ≡ min c.args.k (suc c.args.j) = omega arith in
    rw e at c.loop-m.invariant
