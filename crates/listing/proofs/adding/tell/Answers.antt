-- `adding::tell` meets its contract: of what is held, the faults alone change. Assumes nothing.
use native.Mathlib.Omega.{arith}
use Rattle.listing.proofs.adding.tell.Goals as goal

pub plus-after-requires : goal.plus-after-requires
plus-after-requires c =
    c.requires.room

pub returns : goal.returns
returns c =
    record {
      sane = record { counted = record { fans = c.requires.counted.fans; boards = c.requires.counted.boards; switchboards = c.requires.counted.switchboards; systems = c.requires.counted.systems }; room = c.plus-after.ensures.room };
      few = omega arith;
      holds = λ s h. record {
        lines = h.lines;
        version = h.version;
        begun = h.begun;
        fans = h.fans;
        boards = h.boards;
        systems = h.systems;
        told = c.plus-after.ensures.telling s.faults h.told;
      };
    }
