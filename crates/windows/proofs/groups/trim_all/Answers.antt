-- `trim_all` cuts the lists one by one; none touches another. Assumes nothing.
use mathlib.Core.Path.{◌∙◌}
use Rattle.windows.proofs.Sorting.{trimmed-none, trimmed-all, room-first, room-second, room-third, room-fourth}
use Rattle.windows.proofs.groups.trim_all.Goals as goal

pub returns-then-oldest-reach : goal.returns-then-oldest-reach
returns-then-oldest-reach c = trimmed-none c.if-oldest-reach.true

pub trim-requires : goal.trim-requires
trim-requires c = room-first c.requires

pub trim-requires-2 : goal.trim-requires-2
trim-requires-2 c =
    room-second c.requires c.trim.ensures

pub trim-requires-3 : goal.trim-requires-3
trim-requires-3 c =
    room-third c.requires c.trim.ensures c.trim-2.ensures

pub trim-requires-4 : goal.trim-requires-4
trim-requires-4 c =
    room-fourth c.requires c.trim.ensures c.trim-2.ensures c.trim-3.ensures

pub shape_of-table : goal.shape_of-table
shape_of-table c =
    c.trim-4.ensures.kept.long ∙ c.trim-3.ensures.kept.long ∙ c.trim-2.ensures.kept.long ∙ c.trim.ensures.kept.long

pub returns : goal.returns
returns c =
    trimmed-all c.requires c.if-oldest-reach.false c.trim.ensures c.trim-2.ensures c.trim-3.ensures c.trim-4.ensures
