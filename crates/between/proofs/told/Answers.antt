-- `told` goes by the rating's cases. Assumes nothing.
use Rattle.std.proofs.Common.{refl}
use Rattle.between.proofs.told.Goals as goal

pub ends_of-requires : goal.ends_of-requires
ends_of-requires c = rw c.in-Range.is at c.requires

pub returns-in-Range : goal.returns-in-Range
returns-in-Range c = rw c.in-Range.is c.ends_of.ensures

pub returns-in-Refused : goal.returns-in-Refused
returns-in-Refused c = rw c.in-Refused.is refl
