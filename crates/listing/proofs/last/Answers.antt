-- `last` meets its contract: three things that may be lacking are told, and then the fans on boards that are not there. Assumes nothing.
use Rattle.typed_lists.proofs.Telling.{told-then}
use Rattle.listing.proofs.TextEnd.{ended-steps, ended-boardless, ended-boarded}
use Rattle.listing.proofs.last.Goals as goal

pub missing-second-requires : goal.missing-second-requires
missing-second-requires c =
    (c.missing-first.ensures.room, c.requires.1)

pub missing-third-requires : goal.missing-third-requires
missing-third-requires c =
    (c.missing-second.ensures.room, c.requires.1)

pub returns-then-g-eq0 : goal.returns-then-g-eq0
returns-then-g-eq0 c =
    let told = told-then (told-then c.missing-first.ensures c.missing-second.ensures) (rw c.boardless.ensures at c.missing-third.ensures) in
    ended-steps c.requires.0 c.missing-third.ensures.room (λ s h. ended-boardless h c.if-g-eq0.true (told.telling s.faults h.told))

pub unplaced-fourth-requires : goal.unplaced-fourth-requires
unplaced-fourth-requires c =
    (c.missing-third.ensures.room, c.requires.0.counted.fans)

pub returns : goal.returns
returns c =
    let told = told-then (told-then (told-then c.missing-first.ensures c.missing-second.ensures) (rw c.boardless.ensures at c.missing-third.ensures)) c.unplaced-fourth.ensures in
    ended-steps c.requires.0 c.unplaced-fourth.ensures.room (λ s h. ended-boarded h c.if-g-eq0.false (told.telling s.faults h.told))
