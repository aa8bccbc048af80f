-- `showing::put_fans` meets its contract: the buffer so far has the lines of the fans passed, and room for the rest. Assumes nothing.
use mathlib.Core.Path.{sym}
use native.Mathlib.Omega.{arith}
use Rattle.rules.specs.File.{most_fans}
use Rattle.rules.specs.File.{deck_in}
use Rattle.deck.proofs.Kept.{few-fans}
use Rattle.printing.proofs.Lined.{no_lines, room-left, one_more, all_lines}
use Rattle.wording.specs.Lines.{fan_room}
use Rattle.deckshow.proofs.Lengths.{fan-line}
use Rattle.deckshow.proofs.Shown.{fans-shown}
use Rattle.deckshow.proofs.showing.put_fans.Goals as goal

pub loop-i-init : goal.loop-i-init
loop-i-init c = no_lines _ _ _ _

pub put_fan-end-requires : goal.put_fan-end-requires
put_fan-end-requires c = record { headed = c.requires.headed; place = c.loop-i-test.true; room = room-left c.loop-i.invariant fan_room most_fans (fan-line (deck_in c.args.file.now)) c.loop-i-test.true (few-fans c.requires.headed) c.requires.room }

pub loop-i-preserved : goal.loop-i-preserved
loop-i-preserved c =
    one_more c.loop-i.invariant c.loop-i-test.true (omega (arith, c.put_fan-end.auto)) c.put_fan-end.ensures

pub shape_of-out : goal.shape_of-out
shape_of-out c = c.loop-i.invariant.same

pub returns : goal.returns
returns c =
    rw (sym (fans-shown c.requires.headed)) at (all_lines c.loop-i.invariant c.loop-i-test.false)
