-- `telling::put_systems` meets its contract: the buffer so far has the lines of the systems passed, and room for the rest. Assumes nothing.
use Prim.Native.Nat.{◌+◌}
use native.Mathlib.Omega.{arith}
use Rattle.rules.specs.File.{most_systems}
use Rattle.deck.proofs.Kept.{few-systems}
use Rattle.states.specs.States.{verdict_in}
use Rattle.printing.proofs.Lined.{no_lines, room-left, one_more, all_lines}
use Rattle.deckstate.specs.Lines.{line_room}
use Rattle.deckstate.proofs.Lengths.{line-short}
use Rattle.deckstate.proofs.telling.put_systems.Goals as goal

pub loop-s-init : goal.loop-s-init
loop-s-init c = no_lines _ _ _ _

pub put_system-end-requires : goal.put_system-end-requires
put_system-end-requires c = record { placed = record { headed = c.requires.headed; place = c.loop-s-test.true }; room = room-left c.loop-s.invariant line_room most_systems (λ s. line-short (s + 1) (verdict_in c.args.file.now s c.args.state)) c.loop-s-test.true (few-systems c.requires.headed) (omega (arith, c.requires.room)) }

pub loop-s-preserved : goal.loop-s-preserved
loop-s-preserved c =
    one_more c.loop-s.invariant c.loop-s-test.true (omega (arith, c.put_system-end.auto)) c.put_system-end.ensures

pub shape_of-out : goal.shape_of-out
shape_of-out c = c.loop-s.invariant.same

pub returns : goal.returns
returns c =
    rw c.requires.headed.says.systems at (all_lines c.loop-s.invariant c.loop-s-test.false)
