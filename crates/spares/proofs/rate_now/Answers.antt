-- `rate_now` works the stretch where it stands, in a table of zeros. Assumes nothing.
use borrow.Author.Rules.{rules}
use Rattle.spares.proofs.Rating.{as-it-is}
use Rattle.spares.proofs.rate_now.Goals as goal

pub work-requires : goal.work-requires
work-requires c =
    c.requires

pub returns : goal.returns
returns c =
    as-it-is _ c.requires c.work.ensures
