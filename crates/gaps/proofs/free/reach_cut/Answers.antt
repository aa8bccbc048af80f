-- `reach_cut` goes on while debts are cut short. Assumes nothing.
use mathlib.Core.Path.{◌≡◌, ap}
use Prim.Native.Nat.{◌<◌}
use native.Mathlib.Omega.{arith}
use lib.ListN.{length}
use Rattle.memory.specs.Owed.{owed}
use Rattle.gaps.proofs.Reaching.{cut-is, failed-is, stands-stepping, stands-more}
use Rattle.gaps.proofs.free.reach_cut.Goals as goal

pub more-hand-requires : goal.more-hand-requires
more-hand-requires c =
    let debt = failed-is c.args.r c.args.s.free c.requires.none c.failed-m.ensures in
    let some : c.loop-left.left < length c.args.survival.now = omega arith in
    stands-stepping c.loop-left.invariant some (cut-is c.loop-left.invariant.holds _ _ debt some (omega arith) c.cut_short-fails.ensures) c.requires.none

pub loop-left-preserved : goal.loop-left-preserved
loop-left-preserved c =
    let debt = failed-is c.args.r c.args.s.free c.requires.none c.failed-m.ensures in
    let some : c.loop-left.left < length c.args.survival.now = omega arith in
    let fails = cut-is c.loop-left.invariant.holds _ _ debt some (omega arith) c.cut_short-fails.ensures in
    stands-more c.loop-left.invariant some fails c.more-hand.ensures.step c.more-hand.ensures.put

pub returns : goal.returns
returns c =
    let e : c.loop-left.left ≡ c.max-last.result = omega arith in
    record {
      free = ap (owed c.args.s.free.clean) c.requires.none;
      most = omega arith;
      done = λ more. omega arith;
      holds = rw e at c.loop-left.invariant.holds;
      kept = c.loop-left.invariant.kept;
    }
