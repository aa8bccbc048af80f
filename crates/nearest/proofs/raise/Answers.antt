-- `raise` keeps the number times its power of two, and ends at the first that is no less than the unit. Assumes nothing.
use mathlib.Core.Path.{refl}
use Prim.Native.Nat.{ℕ, ◌-◌, ◌*◌, ◌≤◌, ◌<◌}
use native.Mathlib.Nat.{lt_of_lt_of_le}
use native.Mathlib.Omega.{arith}
use Rattle.nearest.proofs.Raising.{doubled, left}
use Rattle.nearest.proofs.raise.Goals as goal

smaller : (unit near : ℕ) → 0 < near → near < unit → unit - near * 2 < unit - near
smaller unit near p l = omega arith

twice-some : (near : ℕ) → 0 < near → 0 < near * 2
twice-some near p = omega arith

twice-less : (near unit : ℕ) → near < unit → near * 2 < 2 * unit
twice-less near unit l = omega arith

less_one : (field : ℕ) → field ≤ 1022 → field - 1 ≤ 1022
less_one field l = omega arith

pub loop-near-init : goal.loop-near-init
loop-near-init c =
    (c.requires.positive, omega (arith, c.requires.within.some, c.requires.within.part), omega arith, refl)

pub overflow_mul-near : goal.overflow_mul-near
overflow_mul-near c = omega (arith, c.requires.within.most)

pub overflow_sub-field : goal.overflow_sub-field
overflow_sub-field c =
    left _ _ _ c.requires.positive (lt_of_lt_of_le c.loop-near-test.true c.requires.within.most) c.loop-near.invariant.3

pub loop-near-smaller : goal.loop-near-smaller
loop-near-smaller c = smaller _ _ c.loop-near.invariant.0 c.loop-near-test.true

pub loop-near-preserved : goal.loop-near-preserved
loop-near-preserved c =
    (twice-some _ c.loop-near.invariant.0, twice-less _ _ c.loop-near-test.true, less_one _ c.loop-near.invariant.2, doubled _ _ _ (left _ _ _ c.requires.positive (lt_of_lt_of_le c.loop-near-test.true c.requires.within.most) c.loop-near.invariant.3) c.loop-near.invariant.3)

pub returns : goal.returns
returns c =
    record {
      field = c.loop-near.invariant.2;
      scaled = record { some = c.requires.within.some; most = c.requires.within.most; least = c.loop-near-test.false; less = c.loop-near.invariant.1 };
      same = c.loop-near.invariant.3;
    }
