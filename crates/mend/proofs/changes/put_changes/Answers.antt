-- `changes::put_changes` meets its contract: a turn puts the change of one place more. Assumes nothing.
use Rattle.mend.proofs.Putting.{putting-none, putting-room, putting-more, putting-all}
use Rattle.mend.proofs.changes.put_changes.Goals as goal

pub loop-i-init : goal.loop-i-init
loop-i-init c = putting-none c.requires.fits

pub put_change-at-requires : goal.put_change-at-requires
put_change-at-requires c = putting-room c.loop-i.invariant c.loop-i-test.true

pub loop-i-preserved : goal.loop-i-preserved
loop-i-preserved c =
    putting-more c.loop-i.invariant c.loop-i-test.true c.put_change-at.ensures

pub shape_of-list : goal.shape_of-list
shape_of-list c = c.loop-i.invariant.long

pub returns : goal.returns
returns c = putting-all c.loop-i.invariant c.loop-i-test.false
