-- `rate_spare` rates the stretch with the spare in the fan's place, and as it is: what is not refused is not refused so either, and the ends are the differences of
use borrow.Author.Rules.{rules}
use Rattle.gain.proofs.Asking.{swappable, as-it-is, after-within, before-within, found}
use Rattle.gain.proofs.rate_spare.Goals as goal

-- the two ratings' figures. Assumes nothing.
pub rate-after-requires : goal.rate-after-requires
rate-after-requires c = swappable _ c.args.spare _ c.requires

pub work-before-requires : goal.work-before-requires
work-before-requires c =
    as-it-is _ c.args.spare _ c.requires _ c.rate-after.ensures.kept

pub difference-requires : goal.difference-requires
difference-requires c = record { after = after-within _ c.args.spare _ c.requires c.rate-after.ensures c.work-before.ensures; before = before-within _ c.args.spare _ c.requires c.rate-after.ensures c.work-before.ensures }

pub returns : goal.returns
returns c =
    found _ c.args.spare _ c.requires c.rate-after.ensures c.work-before.ensures c.difference.ensures
