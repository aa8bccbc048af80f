-- `fans::plus_one` meets its contract: each array's front is longer by what is stored behind it. Assumes nothing.
use mathlib.Core.Path.{refl}
use Rattle.typed_lists.proofs.MoreFans.{one-lined}
use Rattle.typed_lists.proofs.Storing.{stored_more}
use Rattle.typed_lists.proofs.fans.plus_one.Goals as goal

pub returns : goal.returns
returns c = record {
  count = refl;
  lined = λ l. one-lined l c.requires _ _ _ _;
  lists = λ ps ws bs ls h. record {
    parts = stored_more h.parts _ c.requires;
    weighed = stored_more h.weighed _ c.requires;
    placed = stored_more h.placed _ c.requires;
    lined = stored_more h.lined _ c.requires;
  };
}
