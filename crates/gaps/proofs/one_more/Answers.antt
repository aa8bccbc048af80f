-- `one_more` is the rounded step of the open clean ones and of the debt that closes them. Assumes nothing.
use Rattle.memory.specs.Owed.{owing}
use Rattle.places.proofs.Values.{valued-within}
use Rattle.gaps.proofs.one_more.Goals as goal

pub step-requires : goal.step-requires
step-requires c =
    record {
      survival = rw c.chance-p.ensures (c.requires.passable.holds.asked.list.units _);
      rest = c.failure.ensures;
      left = c.requires.works_small;
      right = valued-within c.requires.passable.holds.asked.list.whole (owing c.args.r) c.args.survival.now c.requires.passable.holds.asked.list.units c.args.i c.args.m c.past-fails.ensures;
    }
