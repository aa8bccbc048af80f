-- `lines::put_some` meets its contract: the buffer so far has the lines of the systems passed, and room for the rest. Assumes nothing.
use Prim.Native.Nat.{◌+◌}
use native.Mathlib.Omega.{arith}
use Rattle.deck.proofs.Kept.{few-systems}
use Rattle.printing.proofs.Lined.{no_lines, room-left, one_more, all_lines}
use Rattle.deckworth.specs.Lines.{fans_room, half}
use Rattle.deckworth.proofs.Lengths.{fans-short}
use Rattle.deckworth.proofs.lines.put_some.Goals as goal

pub loop-k-init : goal.loop-k-init
loop-k-init c = no_lines _ _ _ _

pub overflow_add-from : goal.overflow_add-from
overflow_add-from c =
    omega (arith, c.loop-k-test.true, c.requires.few.0, few-systems c.requires.headed)

pub put_fans-end-requires : goal.put_fans-end-requires
put_fans-end-requires c = record { placed = record { headed = c.requires.headed; place = omega (arith, c.loop-k-test.true, c.requires.few.0) }; room = room-left c.loop-k.invariant fans_room half (λ k. fans-short c.args.words c.requires.headed (c.args.from + k)) c.loop-k-test.true c.requires.few.1 (omega (arith, c.requires.room)) }

pub loop-k-preserved : goal.loop-k-preserved
loop-k-preserved c =
    one_more c.loop-k.invariant c.loop-k-test.true (omega (arith, c.put_fans-end.auto)) c.put_fans-end.ensures

pub shape_of-out : goal.shape_of-out
shape_of-out c = c.loop-k.invariant.same

pub returns : goal.returns
returns c = all_lines c.loop-k.invariant c.loop-k-test.false
