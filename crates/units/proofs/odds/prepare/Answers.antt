-- `prepare` meets its contract: P's own failure number, and its share of the file's unit. Assumes nothing.
use mathlib.Core.Path.{refl}
use Rattle.units.proofs.Laws.{whole-any}
use Rattle.units.proofs.odds.prepare.Goals as goal

pub share-share-requires : goal.share-share-requires
share-share-requires c = rw c.whole.ensures (whole-any _, c.requires)

pub returns : goal.returns
returns c = record {
  prepared = record {
    unit = whole-any _;
    survival = c.requires;
    rest = c.failure-q.ensures;
    dealt = rw c.whole.ensures at c.share-share.ensures;
  };
  same = refl;
}
