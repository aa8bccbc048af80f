-- `by_shares` meets its contract: every unit but 2^30. Assumes nothing.
use mathlib.Core.Path.{refl}
use Rattle.units.specs.Share.{by_shares}
use Rattle.units.proofs.by_shares.Goals as goal

pub returns : goal.returns
unfolding by_shares
returns c = refl
