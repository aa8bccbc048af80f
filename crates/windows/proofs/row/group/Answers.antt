-- `group` works one pattern more a turn. Assumes nothing.
use Rattle.windows.proofs.Working.{entry-same, ready-still, partly_more}
use Rattle.windows.proofs.row.group.Goals as goal

pub both-requires : goal.both-requires
both-requires c =
    let l = rw c.list_at-at.ensures at c.loop-j-test.true in
    rw (c.list_at-at.ensures, entry-same c.requires l c.loop-j.invariant) (ready-still c.requires l c.loop-j.invariant)

pub loop-j-preserved : goal.loop-j-preserved
loop-j-preserved c =
    let l = rw c.list_at-at.ensures at c.loop-j-test.true in
    partly_more c.requires l c.loop-j.invariant (rw (c.list_at-at.ensures, entry-same c.requires l c.loop-j.invariant) at c.both.ensures)
