-- `mix_board` meets its contract: the sets that were passed are mixed, and the others stand as they were. Assumes nothing.
use native.Mathlib.Omega.{arith}
use Rattle.boards.proofs.Working.{mixing-within}
use Rattle.boards.proofs.mix_board.Goals as goal

pub mix-ends-requires : goal.mix-ends-requires
mix-ends-requires c =
    record {
      place = c.requires.place;
      units = c.requires.units;
      left = mixing-within c.requires.within c.loop-j.invariant (omega arith) (omega arith);
      right = mixing-within c.requires.within c.loop-j.invariant (omega arith) (omega arith);
    }
