-- `showing::put_systems` meets its contract: the buffer so far has the lines of the systems passed, and room for the rest. Assumes nothing.
use mathlib.Core.Path.{sym}
use native.Mathlib.Omega.{arith}
use Rattle.rules.specs.File.{most_systems}
use Rattle.rules.specs.File.{deck_in}
use Rattle.deck.proofs.Kept.{few-systems}
use Rattle.printing.proofs.Lined.{no_lines, room-left, one_more, all_lines}
use Rattle.wording.specs.Lines.{system_room}
use Rattle.deckshow.proofs.Lengths.{system-line}
use Rattle.deckshow.proofs.Shown.{systems-shown}
use Rattle.deckshow.proofs.showing.put_systems.Goals as goal

pub loop-s-init : goal.loop-s-init
loop-s-init c = no_lines _ _ _ _

pub put_system-end-requires : goal.put_system-end-requires
put_system-end-requires c = record { placed = record { headed = c.requires.headed; place = c.loop-s-test.true }; room = room-left c.loop-s.invariant system_room most_systems (system-line (deck_in c.args.file.now)) c.loop-s-test.true (few-systems c.requires.headed) c.requires.room }

pub loop-s-preserved : goal.loop-s-preserved
loop-s-preserved c =
    one_more c.loop-s.invariant c.loop-s-test.true (omega (arith, c.put_system-end.auto)) c.put_system-end.ensures

pub shape_of-out : goal.shape_of-out
shape_of-out c = c.loop-s.invariant.same

pub returns : goal.returns
returns c =
    rw (sym (systems-shown c.requires.headed)) at (all_lines c.loop-s.invariant c.loop-s-test.false)
