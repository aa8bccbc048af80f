-- `lines::put_fans` meets its contract: the buffer so far has the lines of the fans passed, and room for the rest. Assumes nothing.
use native.Mathlib.Omega.{arith}
use Rattle.rules.specs.File.{most_fans}
use Rattle.deck.proofs.Kept.{few-fans}
use Rattle.printing.proofs.Lined.{no_lines, room-left, one_more, all_lines}
use Rattle.deckworth.specs.Lines.{line_room}
use Rattle.deckworth.proofs.Lengths.{fan-short}
use Rattle.deckworth.proofs.lines.put_fans.Goals as goal

pub loop-i-init : goal.loop-i-init
loop-i-init c = no_lines _ _ _ _

pub put_fan-end-requires : goal.put_fan-end-requires
put_fan-end-requires c = record { placed = c.requires.placed; fan = c.loop-i-test.true; room = room-left c.loop-i.invariant line_room most_fans (fan-short c.args.words c.args.file.now c.args.s) c.loop-i-test.true (few-fans c.requires.placed.headed) c.requires.room }

pub loop-i-preserved : goal.loop-i-preserved
loop-i-preserved c =
    one_more c.loop-i.invariant c.loop-i-test.true (omega (arith, c.put_fan-end.auto)) c.put_fan-end.ensures

pub shape_of-out : goal.shape_of-out
shape_of-out c = c.loop-i.invariant.same

pub returns : goal.returns
returns c =
    rw c.requires.placed.headed.says.fans at (all_lines c.loop-i.invariant c.loop-i-test.false)
