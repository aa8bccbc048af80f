-- `bytes::put_all1` meets its contract: a turn lays one number more, in a byte. Assumes nothing.
use mathlib.Core.Path.{refl}
use native.Mathlib.Omega.{arith}
use Rattle.writer.proofs.Laying.{laying-none, laying-more, laying-all}
use Rattle.writer.proofs.bytes.put_all1.Goals as goal

pub loop-i-init : goal.loop-i-init
loop-i-init c = laying-none c.requires

pub put1-requires : goal.put1-requires
put1-requires c = omega (arith, c.loop-i.invariant.long)

pub loop-i-preserved : goal.loop-i-preserved
loop-i-preserved c =
    laying-more c.loop-i.invariant c.loop-i-test.true refl c.put1.ensures

pub shape_of-room : goal.shape_of-room
shape_of-room c = c.loop-i.invariant.long

pub returns : goal.returns
returns c = laying-all c.loop-i.invariant c.loop-i-test.false
