-- `lines::put_systems` meets its contract: the buffer so far has the lines of the systems passed, and room for the rest. Assumes nothing.
-- left. Assumes nothing.
use native.Mathlib.Omega.{arith}
use Rattle.rules.specs.File.{most_systems, deck_in, system_in, asked_by}
use Rattle.deck.proofs.Kept.{few-systems}
use Rattle.printing.proofs.Lined.{no_lines, room-left, one_more, all_lines}
use Rattle.spare_lines.specs.System.{system_room}
use Rattle.spare_lines.proofs.Whole.{system-short}
use Rattle.deckspare.specs.Lines.{job_of}
use Rattle.deckspare.proofs.lines.put_systems.Goals as goal

pub loop-s-init : goal.loop-s-init
loop-s-init c = no_lines _ _ _ _

pub put_system-end-requires : goal.put_system-end-requires
put_system-end-requires c = record {
  placed = record { headed = c.requires.headed; place = c.loop-s-test.true };
  room = room-left c.loop-s.invariant system_room most_systems (λ i. system-short (job_of c.args.p c.args.wanted i) (asked_by (deck_in c.args.file.now) (system_in c.args.file.now i))) c.loop-s-test.true (few-systems c.requires.headed) (omega (arith, c.requires.room));
}

pub loop-s-preserved : goal.loop-s-preserved
loop-s-preserved c =
    one_more c.loop-s.invariant c.loop-s-test.true (omega (arith, c.put_system-end.auto)) c.put_system-end.ensures

pub shape_of-out : goal.shape_of-out
shape_of-out c = c.loop-s.invariant.same

pub returns : goal.returns
returns c =
    rw c.requires.headed.says.systems at (all_lines c.loop-s.invariant c.loop-s-test.false)
